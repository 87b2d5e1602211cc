-- Laws of writing as far as there is room: texts written one behind the other are their join, so a loop that writes texts in turn
-- writes them joined.
use mathlib.Core.Path.{◌≡◌, refl, ap}
use mathlib.Core.List.{List, [], ◌∷◌, ◌++◌, append-nil, append_assoc}
use Prim.Native.Nat.{ℕ, zero, suc, ◌+◌, ◌-◌, ◌≤◌, ◌<◌}
use native.Mathlib.Numerals.{add-one}
use native.Mathlib.Omega.{arith}
use lib.ListN.{length, take, get_or, set, length-append, length-take}
use lib.Seq.{take-nil, take-suc, take_all, take-suc-set}
use Rattle.listing.specs.Put.{greatest_listing, put}

-- ---- nothing, and one text behind another
pub put_none : (text : List ℕ) → put text [] ≡ text
unfolding put
put_none text = simp (take-nil, append-nil)

take-append : (n : ℕ) (a b : List ℕ) → take n a ++ take (n - length a) b ≡ take n (a ++ b)
take-append n [] b = let e : n - 0 ≡ n = omega arith in rw (take-nil, e) refl
take-append zero (x ∷ a) b = let e : 0 - length (x ∷ a) ≡ 0 = omega arith in rw e refl
take-append (suc n) (x ∷ a) b =
    let e : suc n - length (x ∷ a) ≡ n - length a = omega arith in rw e (ap (λ l. x ∷ l) (take-append n a b))

-- where the first text has no room, the second has none either
pub put_join : (text a b : List ℕ) → put (put text a) b ≡ put text (a ++ b)
unfolding put
put_join text a b =
    let n = greatest_listing - length text in
    let rest : greatest_listing - length (put text a) ≡ n - length a = omega (arith, length-append text (take n a), length-take n a) in
    rw (rest, append_assoc) (ap (λ l. text ++ l) (take-append n a b))

-- ---- a turn of a loop that writes a word
pub put_more : (text word : List ℕ) (i : ℕ) → i < length word → put (put text (take i word)) (get_or word i 0 ∷ []) ≡ put text (take (i + 1) word)
put_more text word i l = rw (add-one, take-suc word i 0 l) (put_join text (take i word) (get_or word i 0 ∷ []))

-- ---- one byte: with room for it, and without
pub put_byte : (bytes : List ℕ) (n b : ℕ) → length bytes ≡ greatest_listing → n < greatest_listing →
    take (n + 1) (set bytes n b) ≡ put (take n bytes) (b ∷ [])
unfolding put
put_byte bytes n b size l =
    let room : 1 ≤ greatest_listing - length (take n bytes) = omega (arith, length-take n bytes) in
    rw (add-one, take-suc-set bytes n b (omega arith), take_all (greatest_listing - length (take n bytes)) (b ∷ []) room) refl

pub put_full : (bytes : List ℕ) (n b : ℕ) → length bytes ≡ greatest_listing → greatest_listing ≤ n →
    put (take n bytes) (b ∷ []) ≡ take n bytes
unfolding put
put_full bytes n b size l =
    let none : greatest_listing - length (take n bytes) ≡ 0 = omega (arith, length-take n bytes) in
    rw (none, append-nil) refl

-- ---- with room for all
pub put_all : (bytes : List ℕ) → length bytes ≤ greatest_listing → put [] bytes ≡ bytes
unfolding put
put_all bytes l = take_all greatest_listing bytes l
