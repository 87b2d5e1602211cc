-- Marking sees of a road's version whether the road is accepted, which it is in both, and nothing else.
use Prim.Native.Nat.{ℕ, ◌≤◌}
use mathlib.Core.Bool.{Bool}
use mathlib.Core.List.{List}
use mathlib.Core.Path.{◌≡◌, refl, sym, ap₂, ◌∙◌}
use lib.IntN.{ℤ}
use lib.ListN.{length}
use Rattle.terms.specs.Answers.{accepted}
use Rattle.terms.proofs.Laws.{unless_accepted}
use Rattle.road.specs.declared.Road.{Road}
use Rattle.road.specs.Road.{verdict_up_to, road_verdict}
use Rattle.road.proofs.UpTo.{accepted_up_to}
use Rattle.heights.specs.Profile.{stored_height, exact_height}
use Rattle.heights.specs.Heights.{heights_answer, heights_list, own_heights}
use Rattle.distance.specs.declared.Distances.{Distances}
use Rattle.road_distances.specs.RoadDistances.{road_distances}
use Rattle.marks.specs.Marks.{mark_toward}
use Rattle.road_marks.specs.RoadMarks.{road_mark, mark_road_answer, mark_file_answer, mark_file_list}
use Rattle.file.specs.File.{road_in}
use Rattle.file.specs.Reading.{header_verdict, read_verdict_up_to}
use Rattle.conversion.specs.Conversion.{in_version, converted, convert_verdict}
use Rattle.there_and_back.specs.ThereAndBack.{converted_length, converted_file}
use Rattle.there_and_back.specs.MarkedAlike.{MarkedAlike}
use Rattle.there_and_back.proofs.ThereAndBack.{readable, sound, accepted_there, readable_there, road_in_there}

-- ---- a road that is accepted in both versions
module _ (r : Road) (ok : road_verdict r ≡ accepted) (there : road_verdict (converted r) ≡ accepted) where
  same_verdict : (most : ℕ) → verdict_up_to most (converted r) ≡ verdict_up_to most r
  unfolding in_version
  same_verdict most = accepted_up_to most (converted r) there ∙ sym (accepted_up_to most r ok)

  same_heights : own_heights (converted r) ≡ own_heights r
  unfolding in_version own_heights heights_list heights_answer stored_height exact_height
  same_heights = rw (ok, there) refl

  same_distances : (back : Bool) → road_distances (converted r) back ≡ road_distances r back
  unfolding in_version road_distances
  same_distances back = refl

  same_mark : (back : Bool) → road_mark (converted r) back ≡ road_mark r back
  same_mark back = ap₂ (λ (list : List ℤ) (d : Distances). mark_toward list back d) same_heights (same_distances back)

-- ---- the two files
module _ (s out : List ℕ) (can : convert_verdict s ≡ accepted) (room : converted_length s ≤ length out) where
  abbrev there : List ℕ
  there = converted_file s out

  same_read : (most : ℕ) → read_verdict_up_to most there ≡ read_verdict_up_to most s
  unfolding read_verdict_up_to
  same_read most =
      let header = (unless_accepted (header_verdict s) _ (readable s can)).0 in
      let header-there = (unless_accepted (header_verdict there) _ (readable_there s out can room)).0 in
      rw (header, header-there, road_in_there s out can room, same_verdict (road_in s) (sound s can).road (accepted_there s can) most)

  same_answer : (most : ℕ) (marks : List ℕ) → mark_file_answer most there marks ≡ mark_file_answer most s marks
  unfolding mark_file_answer mark_road_answer in_version
  same_answer most marks =
      rw (same_read most, road_in_there s out can room, same_verdict (road_in s) (sound s can).road (accepted_there s can) most) refl

pub marked_alike : MarkedAlike
unfolding mark_file_list
marked_alike most back s out marks can room =
    let answer = same_answer s out can room most marks in
    let mark = same_mark (road_in s) (sound s can).road (accepted_there s can) back in
    record { answer = answer; list = rw (answer, road_in_there s out can room, mark) }
