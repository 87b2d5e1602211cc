-- Fractions of the same value, compared by cross products: they have the same floor.
use Prim.Native.Nat.{ℕ, ◌<◌}
use mathlib.Core.Path.{◌≡◌, refl, sym, ap, ◌∙◌}
use native.Mathlib.Nat.{mul-lt-mul_of_pos_right}
use native.Mathlib.Omega.{arith}
use lib.IntN.{ℤ, pos, ◌+ℤ◌, ◌*ℤ◌}
use lib.Signed.{◌<ℤ◌, ≤ℤ_refl}
use Rattle.whole.specs.Floor.{floor}
use Rattle.whole.specs.Fractions.{Frac, whole}
use Rattle.whole.proofs.Floor.{Floor, floor_is, floor_unique}
use Rattle.whole.proofs.Int.{var, by, reps, eq_by, lt_by, lt_to}
use Rattle.whole.proofs.Ring.{≤ℤ_antisym, *ℤ_mono, *ℤ_cancel, *ℤ_cancel_<, ring}

-- p and q have positive denominators and the same value
pub record Same (p q : Frac) : Type 0 where
  pub left : 0 < p.den
  pub right : 0 < q.den
  pub cross : p.num *ℤ pos q.den ≡ q.num *ℤ pos p.den

pub same_sym : {p q : Frac} → Same p q → Same q p
same_sym s = record { left = s.right; right = s.left; cross = sym s.cross }

pub same_refl : (q : Frac) → 0 < q.den → Same q q
same_refl q l = record { left = l; right = l; cross = refl }

-- the order of two factors
swap : (x a b : ℤ) → x *ℤ a *ℤ b ≡ x *ℤ b *ℤ a
swap x a b = simp ring

cancel : (x y : ℤ) {k : ℕ} → 0 < k → x *ℤ pos k ≡ y *ℤ pos k → x ≡ y
cancel x y {k} l e =
    ≤ℤ_antisym
    (*ℤ_cancel x y {k = k} l (rw e (≤ℤ_refl _)))
    (*ℤ_cancel y x {k = k} l (rw e (≤ℤ_refl _)))

pub same_trans : {p q r : Frac} → Same p q → Same q r → Same p r
same_trans {p} {q} {r} s t = record {
  left = s.left;
  right = t.right;
  cross = cancel _ _ s.right
      (swap p.num (pos r.den) (pos q.den)
      ∙ ap (λ (x : ℤ). x *ℤ pos r.den) s.cross
      ∙ swap q.num (pos p.den) (pos r.den)
      ∙ ap (λ (x : ℤ). x *ℤ pos p.den) t.cross
      ∙ swap r.num (pos q.den) (pos p.den));
}

times_< : {x y : ℤ} {k : ℕ} → 0 < k → x <ℤ y → (x *ℤ pos k) <ℤ (y *ℤ pos k)
times_< {x} {y} {k} l h =
    lt_by (by (var x) k) (by (var y) k) (omega (arith, mul-lt-mul_of_pos_right (lt_to h (var x) (var y)) l))

-- h d ≤ n < (h + 1) d, over the other denominator
floor_of_same : {p q : Frac} {h : ℤ} → Same p q → Floor p h → Floor q h
floor_of_same {p} {q} {h} s f =
    record {
      below = *ℤ_cancel _ _ s.left (rw (swap h (pos q.den) (pos p.den), ← s.cross) (*ℤ_mono q.den f.below));
      above = *ℤ_cancel_< _ _ p.den (rw (swap (h +ℤ pos 1) (pos q.den) (pos p.den), ← s.cross) (times_< s.right f.above));
    }

pub same_floor : {p q : Frac} → Same p q → floor p ≡ floor q
same_floor {p} {q} s = floor_unique (floor_of_same s (floor_is p s.left)) (floor_is q s.right)

-- over the same denominator
pub same_num : (p q : Frac) → 0 < p.den → p.den ≡ q.den → p.num ≡ q.num → Same p q
same_num p q l d n = record { left = l; right = omega arith; cross = rw (n, d) refl }

-- a fraction whose value is whole
pub same_whole : (q : Frac) (z : ℤ) → 0 < q.den → q.num ≡ z *ℤ pos q.den → Same q (whole z)
same_whole q z l e = let n = var q.num in record {
  left = l;
  right = omega arith;
  cross = eq_by (search reps) n (omega arith) ∙ e;
}
