-- `road_grade`: the road's grade is the steepest of `steepest` and the grades out of the curves from the next one on.
use Rattle.std.proofs.Common.{◌≡◌, drop, map}
use Rattle.road.specs.declared.Curve.{Curve}
use Rattle.road_distances.specs.RoadDistances.{steeper, steepest_grade, road_grade}
use Rattle.road_distances.proofs.road_grade.Given as goal

abbrev pub invariant-loop-c : goal.invariant-loop-c
invariant-loop-c l =
    road_grade l.fn.road l.back ≡ steeper l.back l.steepest (steepest_grade l.back (map (λ (k : Curve). k.grade_out) (drop l.c-index l.c-items)))
