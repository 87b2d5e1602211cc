-- Laws of a road's grade and distances: the grade is the steepest of the road's grades and 0, and of an accepted road it is in its range.
use Prim.Native.Nat.{ℕ, ◌+◌, ◌≤◌, ◌<◌}
use native.Mathlib.Omega.{arith}
use lib.ListN.{length, drop, get_or}
use mathlib.Core.Bool.{Bool, true, false, cond}
use mathlib.Core.List.{List, [], ◌∷◌, map}
use mathlib.Core.Path.{◌≡◌}
use lib.Seq.{drop-cons}
use native.Mathlib.Numerals.{add-one}
use lib.IntN.{ℤ, pos}
use Rattle.std.proofs.lemmas.Int.{ints}
use lib.Signed.{◌≤ℤ◌, lt_z, le_z_yes, ≤ℤ_refl}
use Rattle.whole.proofs.Ring.{≤ℤ_trans}
use Rattle.whole.proofs.Table.{Each, each_map}
use Rattle.terms.specs.Answers.{accepted}
use Rattle.terms.proofs.Laws.{GradeIn}
use Rattle.directions.specs.Directions.{driven_grade}
use Rattle.distance.proofs.Laws.{distances_at_most}
use Rattle.road.specs.declared.Curve.{Curve}
use Rattle.road.specs.declared.Road.{Road}
use Rattle.road.specs.Road.{curves_of, no_curve, road_verdict}
use Rattle.road.specs.Order.{CurveInRange}
use Rattle.road.proofs.Accepted.{accepted_road}
use Rattle.road_distances.specs.RoadDistances.{grades_of, steeper, steepest_grade, road_grade, road_distances}

-- ---- grades compared in a direction
-- g is no greater than k, and towards falling stations no less
abbrev pub AsSteep : Bool → ℤ → ℤ → Type 0
AsSteep true g k = k ≤ℤ g
AsSteep false g k = g ≤ℤ k

as_steep_refl : (back : Bool) (g : ℤ) → AsSteep back g g
as_steep_refl true g = ≤ℤ_refl g
as_steep_refl false g = ≤ℤ_refl g

as_steep_trans : (back : Bool) (g k m : ℤ) → AsSteep back g k → AsSteep back k m → AsSteep back g m
as_steep_trans true g k m p q = ≤ℤ_trans q p
as_steep_trans false g k m p q = ≤ℤ_trans p q

-- ---- the steeper of two is one of them, and as steep as either
steeper_is : (P : ℤ → Type 0) (back : Bool) (a b : ℤ) → P a → P b → P (steeper back a b)
steeper_is P back a b p q = go (cond back (lt_z b a) (lt_z a b))
  where
    go : (t : Bool) → P (cond t a b)
    go true = p
    go false = q

steeper_both : (back : Bool) (a b : ℤ) → AsSteep back (steeper back a b) a × AsSteep back (steeper back a b) b
steeper_both true a b = (grind (arith, ints), grind (arith, ints))
steeper_both false a b = (grind (arith, ints), grind (arith, ints))

-- ---- of three it is the same, from whichever end
steeper_assoc : (back : Bool) (a b c : ℤ) → steeper back a (steeper back b c) ≡ steeper back (steeper back a b) c
steeper_assoc true a b c = grind (arith, ints)
steeper_assoc false a b c = grind (arith, ints)

-- ---- the steepest of some grades
-- of the curves from a place on and one more grade: the curve there is taken to that grade
pub steeper_next : (back : Bool) (s t : ℤ) (cs : List Curve) (i : ℕ) → i < length cs → t ≡ steeper back s (get_or cs i no_curve).grade_out →
    steeper back s (steepest_grade back (map (λ (c : Curve). c.grade_out) (drop i cs))) ≡ steeper back t (steepest_grade back (map (λ (c : Curve). c.grade_out) (drop (i + 1) cs)))
unfolding steepest_grade
steeper_next back s t cs i on e = rw (e, add-one, drop-cons cs i no_curve on) (steeper_assoc back s (get_or cs i no_curve).grade_out _)

-- what holds of 0 and of each of them holds of the steepest
pub steepest_grade_is : (P : ℤ → Type 0) (back : Bool) (gs : List ℤ) → P (pos 0) → Each P gs → P (steepest_grade back gs)
unfolding steepest_grade
steepest_grade_is P back [] z h = z
steepest_grade_is P back (g ∷ gs) z h = steeper_is P back g (steepest_grade back gs) h.0 (steepest_grade_is P back gs z h.1)

-- it is not positive, and towards falling stations not negative
pub steepest_grade_falls : (back : Bool) (gs : List ℤ) → AsSteep back (steepest_grade back gs) (pos 0)
unfolding steepest_grade
steepest_grade_falls back [] = as_steep_refl back (pos 0)
steepest_grade_falls back (g ∷ gs) =
    as_steep_trans back _ (steepest_grade back gs) _ (steeper_both back g (steepest_grade back gs)).1 (steepest_grade_falls back gs)

-- and as steep as any of them
pub steepest_grade_as_steep : (back : Bool) (gs : List ℤ) → Each (AsSteep back (steepest_grade back gs)) gs
unfolding steepest_grade
steepest_grade_as_steep back [] = tt
steepest_grade_as_steep back (g ∷ gs) =
    let both = steeper_both back g (steepest_grade back gs) in
    (both.0, each_map (λ (k : ℤ) (h : AsSteep back (steepest_grade back gs) k). as_steep_trans back _ _ k both.1 h) gs (steepest_grade_as_steep back gs))

-- ---- an accepted road's grade is in its range
outs_in : (cs : List Curve) → Each CurveInRange cs → Each GradeIn (map (λ (c : Curve). c.grade_out) cs)
outs_in [] h = tt
outs_in (c ∷ cs) h = ((h.0.grade_low, h.0.grade_high), outs_in cs h.1)

pub road_grade_in : (r : Road) (back : Bool) → road_verdict r ≡ accepted → GradeIn (road_grade r back)
road_grade_in r back accepted =
    let s = accepted_road r accepted in
    steepest_grade_is GradeIn back (grades_of r) (le_z_yes tt, le_z_yes tt) ((s.grade_low, s.grade_high), outs_in (curves_of r) s.in_range)

-- ---- a road's distances are at most 870 m
pub road_distances_at_most : (r : Road) (back : Bool) → ((road_distances r back).stopping ≤ 870) × ((road_distances r back).decision ≤ 870)
unfolding road_distances
road_distances_at_most r back = distances_at_most r.speed r.purpose (driven_grade back (road_grade r back))
