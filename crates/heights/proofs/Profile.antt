-- Laws of the exact profile: every exact height has a positive denominator, the stored height is its floor, and at a
-- curve's end it is whole. On a curve, after its begin and up to its end, the length is not 0; so none of this needs an
-- accepted road.
use mathlib.Core.Path.{◌≡◌}
use mathlib.Core.Bool.{Bool, true, false, not, cond}
use mathlib.Core.List.{List, [], ◌∷◌}
use Prim.Native.Nat.{ℕ, ◌*◌, ◌%◌, ◌<◌}
use native.Mathlib.Nat.{div-add-mod}
use native.Mathlib.Omega.{arith}
use lib.Dec.{T, leb, leb→le, nleb→lt}
use lib.IntN.{ℤ, pos, ◌+ℤ◌, ◌*ℤ◌}
use Rattle.whole.specs.Fractions.{Frac}
use Rattle.whole.proofs.Floor.{Floor, floor_is}
use Rattle.whole.proofs.Int.{var, reps, eq_by}
use Rattle.road.specs.declared.Curve.{Curve}
use Rattle.road.specs.declared.Road.{Road}
use Rattle.road.specs.Road.{begin, end, half, curves_of}
use Rattle.heights.specs.Profile.{on_curve, end_height, exact_from, exact_height, stored_height}

-- ---- denominators
cond_den_positive : (b : Bool) (p q : Frac) → (T b → 0 < p.den) → (T (not b) → 0 < q.den) → 0 < (cond b p q).den
cond_den_positive true p q f g = f tt
cond_den_positive false p q f g = g tt

exact_from_den_positive : (x₀ : ℕ) (z g : ℤ) (cs : List Curve) (x : ℕ) → 0 < (exact_from x₀ z g cs x).den
unfolding exact_from
exact_from_den_positive x₀ z g [] x = omega arith
exact_from_den_positive x₀ z g (c ∷ cs) x =
    cond_den_positive (leb x (begin c)) _ _ (λ _. omega arith)
    (λ after. cond_den_positive (leb x (end c)) _ _
    (λ upto. omega (arith, nleb→lt x (begin c) after, leb→le x (end c) upto))
    (λ _. exact_from_den_positive (end c) _ _ cs x))

pub exact_den_positive : (r : Road) (x : ℕ) → 0 < (exact_height r x).den
unfolding exact_height
exact_den_positive r x = exact_from_den_positive 0 _ _ (curves_of r) x

-- ---- stored heights
pub stored_floor : (r : Road) (x : ℕ) → Floor (exact_height r x) (stored_height r x)
unfolding stored_height
stored_floor r x = floor_is (exact_height r x) (exact_den_positive r x)

-- ---- a curve's end
-- with L = 2 h both sides are (z + (gin + gout) h) 4 h
end_of_halves : (z gin gout : ℤ) (L h : ℕ) → L ≡ 2 * h →
    (on_curve z gin gout L L).num ≡ (z +ℤ (gin +ℤ gout) *ℤ pos h) *ℤ pos (2 * L)
end_of_halves z gin gout L h twice =
    let vz = var z in let vi = var gin in let vo = var gout in
    rw twice (eq_by (search reps depth 9) (search reps depth 9) (omega arith))

-- num = end_height × den
pub curve_end_whole : (z gin : ℤ) (c : Curve) → c.length % 2 ≡ 0 →
    let q = on_curve z gin c.grade_out c.length c.length in
    q.num ≡ end_height z gin c *ℤ pos q.den
curve_end_whole z gin c even =
    end_of_halves z gin c.grade_out c.length (half c) (omega (arith, div-add-mod c.length 2))
