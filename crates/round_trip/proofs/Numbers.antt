-- Numbers and their bytes, once over the width: the bytes of a number are those of that number alone, and a number made of bytes has
-- those bytes. And where a number stands in joined lists.
use mathlib.Core.Path.{◌≡◌, refl}
use mathlib.Core.List.{List, [], ◌∷◌, ◌++◌}
use Prim.Native.Nat.{ℕ, zero, suc, ◌+◌, ◌*◌, ◌/◌, ◌%◌, ◌^◌, ◌≤◌, ◌<◌}
use native.Mathlib.Numerals.{add-one}
use native.Mathlib.Omega.{arith}
use lib.ListN.{length, take, drop, get_or-append}
use lib.Seq.{drop-cons, get_or-append-add}
use Rattle.file.specs.File.{byte_at, number_at}
use Rattle.writing.specs.Bytes.{bytes_of}
use Rattle.round_trip.specs.RoundTrip.{Bytes}

-- a number of one byte is that byte
pub number_one : (s : List ℕ) (k : ℕ) → number_at s k 1 ≡ byte_at s k
unfolding number_at
number_one s k = omega arith

-- ---- in the first of two lists, and in the second
module _ (a b : List ℕ) where
  pub number_first : (k w : ℕ) → k + w ≤ length a → number_at (a ++ b) k w ≡ number_at a k w
  unfolding number_at
  number_first k zero h = refl
  number_first k (suc w) h = rw (get_or-append a b 0 k (omega arith), number_first (k + 1) w (omega arith))

  pub number_next : (k w : ℕ) → number_at (a ++ b) (length a + k) w ≡ number_at b k w
  unfolding number_at
  number_next k zero = refl
  number_next k (suc w) =
      let e : length a + k + 1 ≡ length a + (k + 1) = omega arith in
      rw (get_or-append-add a b k 0, e, number_next (k + 1) w)

-- ---- from a number to its bytes and back
pub number_back : (w n : ℕ) → n < 256 ^ w → number_at (bytes_of w n) 0 w ≡ n
unfolding number_at
number_back zero n h = omega arith
number_back (suc w) n h =
    rw (number_next (n % 256 ∷ []) (bytes_of w (n / 256)) 0 w, number_back w (n / 256) (omega arith)) (omega arith)

-- ---- from bytes to their number and back
module _ (s : List ℕ) (bytes : Bytes s) where
  pub bytes_back : (k w : ℕ) → k + w ≤ length s → bytes_of w (number_at s k w) ≡ take w (drop k s)
  unfolding number_at
  bytes_back k zero h = refl
  bytes_back k (suc w) h =
      let n = number_at s (k + 1) w in
      let low : (byte_at s k + 256 * n) % 256 ≡ byte_at s k = omega (arith, bytes k) in
      let rest : (byte_at s k + 256 * n) / 256 ≡ n = omega (arith, bytes k) in
      rw (low, rest, bytes_back (k + 1) w (omega arith), drop-cons s k 0 (omega arith), add-one)
