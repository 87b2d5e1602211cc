-- docs/RULES.md, "Distances a driver needs": the grade that a road is marked with, and the distances that it needs on it.
use Rattle.std.specs.Prelude.{Bool, cond, List, [], ◌∷◌, map, ℤ, pos}
use Rattle.std.specs.Int.Signed.{lt_z}
use Rattle.directions.specs.Directions.{driven_grade}
use Rattle.distance.specs.declared.Distances.{Distances}
use Rattle.distance.specs.Distance.{distances_for}
use Rattle.road.specs.declared.Curve.{Curve}
use Rattle.road.specs.declared.Road.{Road}
use Rattle.road.specs.Road.{curves_of}

-- the grades of a road: the first one, and the grade out of each curve in use
abbrev pub grades_of : Road → List ℤ
grades_of r = r.first_grade ∷ map (λ (c : Curve). c.grade_out) (curves_of r)

-- of two grades the lesser, and towards falling stations the greater
abbrev pub steeper : Bool → ℤ → ℤ → ℤ
steeper back a b = cond (cond back (lt_z b a) (lt_z a b)) a b

-- the least of some grades, or 0 if none is negative; towards falling stations the greatest, or 0 if none is positive
unfoldable pub steepest_grade : Bool → List ℤ → ℤ
steepest_grade back [] = pos 0
steepest_grade back (g ∷ gs) = steeper back g (steepest_grade back gs)

-- the grade that a road is marked with in a direction, as for rising stations
abbrev pub road_grade : Road → Bool → ℤ
road_grade r back = steepest_grade back (grades_of r)

-- what a road needs on that grade to stop, and to decide, at its own speed and for its own purpose
unfoldable pub road_distances : Road → Bool → Distances
road_distances r back = distances_for r.speed r.purpose (driven_grade back (road_grade r back))
