-- A preview that is not refused: either road is accepted and either list has room, so marking refuses neither, and what is counted are the
-- stations at which the marks of the two roads differ.
use Prim.Native.Nat.{ℕ, ◌+◌, ◌≤◌, ◌<◌}
use mathlib.Core.Bool.{not}
use mathlib.Core.List.{List}
use mathlib.Core.Path.{◌≡◌, ap, ◌∙◌}
use native.Mathlib.Omega.{arith}
use borrow.Author.Tests.{le-ltb}
use lib.Dec.{eqb}
use lib.ListN.{length, get_or, take}
use Rattle.std.specs.Prelude.{Ok}
use Rattle.std.specs.List.{count_by, zip}
use Rattle.whole.proofs.Fill.{filled_at}
use Rattle.terms.specs.Answers.{accepted}
use Rattle.terms.specs.Limits.{greatest_short_road}
use Rattle.terms.proofs.Laws.{room_number, written-length}
use Rattle.road.specs.declared.Road.{Road}
use Rattle.road.proofs.Accepted.{accepted_road}
use Rattle.road.specs.Road.{short_road_verdict}
use Rattle.directions.specs.Directions.{forward}
use Rattle.road_marks.specs.RoadMarks.{road_mark, mark_road_answer, mark_road_list}
use Rattle.change.specs.Change.{with_length, change_verdict}
use Rattle.change.proofs.Laws.{accepted_change}
use Rattle.preview.specs.Preview.{preview_verdict, preview_answer}
use Rattle.preview.proofs.Differing.{differing_cong, differing_zip}

-- the list in which marking leaves a road's marks
abbrev pub left_in : Road → List ℕ → List ℕ
left_in r list = mark_road_list greatest_short_road r forward list

module _ (r : Road) (list : List ℕ) (e : short_road_verdict r ≡ accepted) (room : r.length + 1 ≤ length list) where
  marked : mark_road_answer greatest_short_road r list ≡ Ok (r.length + 1)
  unfolding mark_road_answer
  marked = room_number (short_road_verdict r) (r.length + 1) list e room

  marked_at : (i : ℕ) → i < r.length + 1 → get_or (left_in r list) i 0 ≡ road_mark r forward i
  unfolding mark_road_list
  marked_at i h = rw marked (filled_at (road_mark r forward) 0 (r.length + 1) list i 0 (omega arith) (omega arith) (omega arith))

  as_many : length (left_in r list) ≡ length list
  unfolding mark_road_list
  as_many = written-length (road_mark r forward) (mark_road_answer greatest_short_road r list) list

-- of a road whose change is accepted, where both lists have room
module _ (r : Road) (k l : ℕ) (first second : List ℕ) (e : change_verdict greatest_short_road r k l ≡ accepted) (room : r.length + 1 ≤ length first)
    (room' : r.length + 1 ≤ length second) where
  abbrev changed : Road
  changed = with_length r k l

  pub few : r.length ≤ greatest_short_road
  few = (accepted_road {most = greatest_short_road} r (accepted_change greatest_short_road r k l e).0).length_high

  pub compared : (out out' : List ℕ) (n : ℕ) → out ≡ left_in r first → out' ≡ left_in changed second →
      n ≡ count_by (λ (p : ℕ × ℕ). not (eqb p.0 p.1)) (take (r.length + 1) (zip out out')) → Ok n ≡ preview_answer r k l first second
  unfolding preview_answer preview_verdict with_length
  compared out out' n p q counted =
      let a = accepted_change greatest_short_road r k l e in
      let one = as_many r first a.0 room in let other = as_many changed second a.2 room' in
      rw (e, le-ltb (length first) (r.length + 1) room, le-ltb (length second) (r.length + 1) room')
      (ap Ok
      (rw (p, q) at counted
      ∙ differing_zip (left_in r first) (left_in changed second) (r.length + 1) (omega arith) (omega arith)
      ∙ differing_cong _ _ _ _ (r.length + 1) (marked_at r first a.0 room) (marked_at changed second a.2 room')))
