-- Laws of writing: bytes written one behind the other are their join, and what a text holds that was written from its front.
use mathlib.Core.Path.{◌≡◌, refl, ap, ◌∙◌}
use mathlib.Core.List.{List, [], ◌∷◌, ◌++◌}
use Prim.Native.Nat.{ℕ, suc, ◌+◌, ◌-◌, ◌≤◌}
use native.Mathlib.Omega.{arith}
use lib.ListN.{length, get_or, set, take, length-append, length-set}
use lib.Seq.{length-take-le, ext_get_or}
use Rattle.whole.specs.Fill.{filled}
use Rattle.whole.specs.Placed.{placed, Room, Wrote}
use Rattle.whole.proofs.Fill.{filled-length, filled_at, filled-take, filled_cong, filled_join}

-- ---- the placed bytes
pub placed-length : (bytes : List ℕ) (at : ℕ) (xs : List ℕ) → length (placed bytes at xs) ≡ length xs
unfolding placed
placed-length [] at xs = refl
placed-length (b ∷ bytes) at xs = placed-length bytes (at + 1) (set xs at b) ∙ length-set xs at b

placed_join : (a b : List ℕ) (at : ℕ) (xs : List ℕ) → placed (a ++ b) at xs ≡ placed b (at + length a) (placed a at xs)
unfolding placed
placed_join [] b at xs = let z : at + 0 ≡ at = omega arith in rw z refl
placed_join (x ∷ a) b at xs =
    let s : at + suc (length a) ≡ at + 1 + length a = omega arith in
    rw (placed_join a b (at + 1) (set xs at x), s) refl

-- each place holds the byte of its index
placed_filled : (bytes : List ℕ) (at : ℕ) (xs : List ℕ) →
    placed bytes at xs ≡ filled (λ k. get_or bytes (k - at) 0) at (length bytes) xs
unfolding placed filled
placed_filled [] at xs = refl
placed_filled (b ∷ bytes) at xs =
    let f : ℕ → ℕ = λ k. get_or (b ∷ bytes) (k - at) 0 in
    let z : at + 0 ≡ at = omega arith in
    let d : at - at ≡ 0 = omega arith in
    let s : 1 + length bytes ≡ suc (length bytes) = omega arith in
    let here : filled f at 1 xs ≡ set xs at b = rw (z, d) refl in
    placed_filled bytes (at + 1) (set xs at b)
    ∙ filled_cong (λ k. get_or bytes (k - (at + 1)) 0) f (at + 1) (length bytes) (set xs at b)
    (λ k l r. let e : k - at ≡ suc (k - (at + 1)) = omega arith in rw e refl)
    ∙ (rw (here, s) at (filled_join f at 1 (length bytes) xs))

-- ---- writing
pub wrote_join : {a b : List ℕ} {at m n : ℕ} {xs ys zs : List ℕ} → Wrote a at m xs ys → Wrote b m n ys zs →
    Wrote (a ++ b) at n xs zs
wrote_join {a} {b} {at} {xs} p q = record {
  behind = simp length-append (omega arith);
  text = q.text ∙ rw (placed_join a b at xs, p.behind, p.text) refl;
}

-- the whole text from place 0 on
pub wrote_filled : {bytes : List ℕ} {n : ℕ} {xs ys : List ℕ} → Wrote bytes 0 n xs ys →
    ys ≡ filled (λ k. get_or bytes k 0) 0 (length bytes) xs
wrote_filled {bytes} {xs} p =
    p.text ∙ placed_filled bytes 0 xs
    ∙ filled_cong (λ k. get_or bytes (k - 0) 0) (λ k. get_or bytes k 0) 0 (length bytes) xs
    (λ k l r. let e : k - 0 ≡ k = omega arith in rw e refl)

-- the front of what was written is the text
pub take-filled : {A : Type 0} (z : A) (l xs : List A) → length l ≤ length xs →
    take (length l) (filled (λ k. get_or l k z) 0 (length l) xs) ≡ l
take-filled {A} z l xs h =
    let n = length l in let f : ℕ → A = λ k. get_or l k z in
    let front = length-take-le n xs h in let long = filled-length f 0 n (take n xs) in
    filled-take f 0 n n xs (omega arith)
    ∙ ext_get_or z (filled f 0 n (take n xs)) l (omega arith)
    (λ k u. filled_at f 0 n (take n xs) k z (omega arith) (omega arith) (omega arith))

pub wrote_front : {bytes : List ℕ} {n : ℕ} {xs ys : List ℕ} → Room bytes 0 xs → Wrote bytes 0 n xs ys → take n ys ≡ bytes
wrote_front {bytes} {n} {xs} r p =
    let all : n ≡ length bytes = omega (arith, p.behind) in
    rw (all, wrote_filled p) (take-filled 0 bytes xs (omega (arith, r.fits)))

pub wrote_length : {bytes : List ℕ} {at n : ℕ} {xs ys : List ℕ} → Wrote bytes at n xs ys → length ys ≡ length xs
wrote_length {bytes} {at} {xs} p = ap length p.text ∙ placed-length bytes at xs
