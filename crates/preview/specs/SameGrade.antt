-- docs/RULES.md, "Trying another length": a changed length changes no grade, so the road and the changed road are marked with the same
-- one, and with the same distances.
use Rattle.std.specs.Prelude.{ℕ, Bool, ◌≡◌}
use Rattle.road.specs.declared.Road.{Road}
use Rattle.road_distances.specs.RoadDistances.{grades_of, road_grade, road_distances}
use Rattle.change.specs.Change.{with_length}

-- of a road and the same road with length l at place k, in a direction
pub record GradesStay (r : Road) (k l : ℕ) (back : Bool) : Type 0 where
  -- the changed road has the same grades in the same order,
  pub grades : grades_of (with_length r k l) ≡ grades_of r
  -- and so the grade that it is marked with,
  pub grade : road_grade (with_length r k l) back ≡ road_grade r back
  -- and the distances that it needs
  pub distances : road_distances (with_length r k l) back ≡ road_distances r back

-- it holds of every road, accepted or not, every place, every length and both directions
abbrev pub SameGrade : Type 0
SameGrade = (r : Road) (k l : ℕ) (back : Bool) → GradesStay r k l back
