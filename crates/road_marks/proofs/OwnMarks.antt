-- The marks of an accepted road's own heights are the road's: they are not refused, for its numbers are in their ranges.
use mathlib.Core.Path.{◌≡◌}
use mathlib.Core.Bool.{Bool}
use mathlib.Core.List.{List}
use Prim.Native.Nat.{ℕ, ◌+◌}
use native.Mathlib.Omega.{arith}
use Rattle.terms.specs.Answers.{room_for, written, accepted}
use Rattle.verdicts.proofs.Laws.{MarksInRange, marks_accepted}
use Rattle.road.specs.declared.Road.{Road}
use Rattle.road.specs.Road.{road_verdict}
use Rattle.road.proofs.Accepted.{accepted_road}
use Rattle.road_distances.specs.RoadDistances.{road_grade, road_distances}
use Rattle.road_distances.proofs.Laws.{road_grade_in}
use Rattle.heights.specs.Heights.{own_heights}
use Rattle.heights.proofs.Filled.{own_length}
use Rattle.marks.specs.Marks.{marks_answer, marks_list}
use Rattle.road_marks.specs.RoadMarks.{road_mark}

module _ (r : Road) (back : Bool) (accepted : road_verdict r ≡ accepted) where
  in_range : MarksInRange r.speed r.purpose (road_grade r back) (r.length + 1)
  in_range =
      let s = accepted_road r accepted in
      record {
        speed_in = (s.speed_low, s.speed_high);
        purpose_in = (s.purpose_low, s.purpose_high);
        grade_in = road_grade_in r back accepted;
        stations = omega (arith, s.length_high);
      }

  module _ (marks : List ℕ) where
    pub own_answer : marks_answer r.speed r.purpose (road_grade r back) (own_heights r) marks ≡ room_for (r.length + 1) marks
    unfolding marks_answer
    own_answer = rw (own_length r, marks_accepted r.speed r.purpose (road_grade r back) (r.length + 1) in_range)

    pub own_list : marks_list r.speed r.purpose (road_grade r back) (own_heights r) back marks ≡ written (road_mark r back) (room_for (r.length + 1) marks) marks
    unfolding marks_list road_distances
    own_list = rw own_answer
