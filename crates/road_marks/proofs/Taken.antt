-- A road that is taken, where none over `most` metres is: it is accepted, its stations fit a list of heights with a place for each, and marking
-- the front of that list, once its heights are filled in, is marking the road (`own_answer`, `own_list`).
use Prim.Native.Nat.{ℕ, ◌+◌, ◌≤◌, ◌<◌}
use mathlib.Core.Bool.{Bool}
use mathlib.Core.List.{List}
use mathlib.Core.Path.{◌≡◌, ◌∙◌}
use native.Mathlib.Omega.{arith}
use lib.IntN.{ℤ}
use lib.ListN.{length, take}
use Rattle.terms.specs.Limits.{greatest_long_road}
use Rattle.terms.specs.Answers.{accepted}
use Rattle.road.specs.declared.Road.{Road}
use Rattle.road.specs.Road.{verdict_up_to, road_verdict}
use Rattle.road.proofs.Accepted.{accepted_road}
use Rattle.road.proofs.UpTo.{verdict_within}
use Rattle.road_distances.specs.RoadDistances.{road_grade}
use Rattle.heights.specs.Heights.{heights_list, own_heights}
use Rattle.heights.proofs.Filled.{own_front}
use Rattle.marks.specs.Marks.{marks_answer, marks_list}
use Rattle.road_marks.specs.RoadMarks.{mark_road_answer, mark_road_list}
use Rattle.road_marks.proofs.OwnMarks.{own_answer, own_list}

module _ (most : ℕ) (r : Road) (taken : verdict_up_to most r ≡ accepted) (known : most ≤ greatest_long_road) (list : List ℤ) (room : most < length list) where
  within : r.length ≤ most
  within = (accepted_road r taken).length_high

  taken_accepted : road_verdict r ≡ accepted
  taken_accepted = verdict_within greatest_long_road most r (omega (arith, within)) within ∙ taken

  -- n is the number of its stations
  module _ (n : ℕ) (all : n ≡ r.length + 1) where
    pub taken_stations : n ≤ most + 1
    taken_stations = omega (arith, all, within)

    front_is : take n (heights_list r list) ≡ own_heights r
    front_is = rw all (own_front r list taken_accepted (omega (arith, within)))

    -- marked by the road's numbers, as they are handed over
    module _ (speed purpose : ℕ) (grade : ℤ) (back : Bool) (marks : List ℕ) (p : speed ≡ r.speed) (q : purpose ≡ r.purpose) (g : grade ≡ road_grade r back) where
      pub taken_answer : marks_answer speed purpose grade (take n (heights_list r list)) marks ≡ mark_road_answer most r marks
      unfolding mark_road_answer
      taken_answer = rw (p, q, g, front_is, taken) (own_answer r back taken_accepted marks)

      pub taken_list : marks_list speed purpose grade (take n (heights_list r list)) back marks ≡ mark_road_list most r back marks
      unfolding mark_road_answer mark_road_list
      taken_list = rw (p, q, g, front_is, taken) (own_list r back taken_accepted marks)
