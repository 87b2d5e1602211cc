-- The lane coming back. The mirror's heights are the road's in reverse order, and its steepest grade forward is the road's backward with the
-- sign changed, so that both need the same distances: what is marked backward over the one is what is marked forward over the other, with
-- the stations counted from the other end. And the same with the two roads exchanged.
use Prim.Native.Nat.{ℕ, ◌+◌, ◌≤◌}
use mathlib.Core.List.{List, reverse, reverse-reverse}
use mathlib.Core.Path.{◌≡◌, refl, sym, ap, ◌∙◌}
use native.Mathlib.Omega.{arith}
use lib.IntN.{ℤ, neg_ℤ, neg_ℤ-neg_ℤ}
use lib.ListN.{length}
use Rattle.terms.specs.Limits.{greatest_long_road}
use Rattle.std.specs.Prelude.{Ok}
use Rattle.terms.specs.Answers.{accepted}
use Rattle.terms.proofs.Laws.{GradeIn, grade_not_outside, room_number}
use Rattle.directions.specs.Directions.{forward, backward, counted, driven_grade}
use Rattle.directions.proofs.Laws.{filled_reversed}
use Rattle.road.specs.declared.Road.{Road}
use Rattle.road.specs.Road.{road_verdict}
use Rattle.road.proofs.Accepted.{accepted_road}
use Rattle.road.proofs.UpTo.{verdict_within}
use Rattle.road_distances.specs.RoadDistances.{road_grade, road_distances}
use Rattle.road_distances.proofs.Laws.{road_grade_in}
use Rattle.heights.specs.Heights.{own_heights}
use Rattle.heights.proofs.Filled.{own_length}
use Rattle.marks.specs.Marks.{mark_toward}
use Rattle.road_marks.specs.RoadMarks.{road_mark, mark_road_answer, mark_road_list}
use Rattle.mirror.specs.Mirror.{mirror}
use Rattle.both_lanes.specs.LaneComingBack.{LaneComingBack}
use Rattle.both_lanes.proofs.Heights.{mirror_heights}
use Rattle.both_lanes.proofs.Grades.{mirror_grade}

-- a grade in its range as it is driven
driven_forward : (g : ℤ) → GradeIn g → driven_grade forward g ≡ g
unfolding driven_grade
driven_forward g h = rw (grade_not_outside g h) refl

driven_backward : (g : ℤ) → GradeIn g → driven_grade backward g ≡ neg_ℤ g
unfolding driven_grade
driven_backward g h = rw (grade_not_outside g h) refl

-- ---- two roads of which one is driven backward as the other is forward
record Opposite (a b : Road) : Type 0 where
  own_accepted : road_verdict a ≡ accepted
  opposite_accepted : road_verdict b ≡ accepted
  same_length : a.length ≡ b.length
  same_speed : a.speed ≡ b.speed
  same_purpose : a.purpose ≡ b.purpose
  heights : reverse (own_heights a) ≡ own_heights b
  grade : neg_ℤ (road_grade a backward) ≡ road_grade b forward

module _ (a b : Road) (o : Opposite a b) where
  same_distances : road_distances a backward ≡ road_distances b forward
  unfolding road_distances
  same_distances =
      let driven = driven_backward (road_grade a backward) (road_grade_in a backward o.own_accepted) ∙ o.grade
      ∙ sym (driven_forward (road_grade b forward) (road_grade_in b forward o.opposite_accepted)) in
      rw (driven, o.same_speed, o.same_purpose) refl

  same_mark : (i : ℕ) → road_mark a backward i ≡ road_mark b forward (counted backward (a.length + 1) i)
  unfolding mark_toward
  same_mark i = rw (o.heights, same_distances, own_length a) refl

-- a road up to a limit is marked where a list has a place for each station
answered : (r : Road) (most : ℕ) (marks : List ℕ) → road_verdict r ≡ accepted → r.length ≤ most → length marks ≡ r.length + 1 →
    mark_road_answer most r marks ≡ Ok (r.length + 1)
unfolding mark_road_answer
answered r most marks ok within full =
    room_number _ _ marks (verdict_within most greatest_long_road r within (accepted_road r ok).length_high ∙ ok) (omega arith)

opposite_marks : (a b : Road) (most : ℕ) (marks : List ℕ) → Opposite a b → a.length ≤ most → length marks ≡ a.length + 1 →
    mark_road_list most a backward marks ≡ reverse (mark_road_list most b forward marks)
unfolding mark_road_list
opposite_marks a b most marks o within full =
    let n = o.same_length in
    let a-answer = answered a most marks o.own_accepted within full in
    let b-answer : mark_road_answer most b marks ≡ Ok (a.length + 1) = rw n (answered b most marks o.opposite_accepted (rw n at within) (rw n at full)) in
    rw (a-answer, b-answer) (filled_reversed (road_mark a backward) (road_mark b forward) (a.length + 1) marks marks full full (λ i l. same_mark a b o i))

-- ---- a road and its mirror
module _ (r : Road) (holds : r.count ≤ length r.curves) (ok : road_verdict r ≡ accepted) (back : road_verdict (mirror r) ≡ accepted) where
  mirror_opposite : Opposite r (mirror r)
  unfolding mirror
  mirror_opposite = record {
    own_accepted = ok;
    opposite_accepted = back;
    same_length = refl;
    same_speed = refl;
    same_purpose = refl;
    heights = sym (mirror_heights r holds ok back);
    grade = sym (mirror_grade r holds ok forward);
  }

  opposite_mirror : Opposite (mirror r) r
  unfolding mirror
  opposite_mirror = record {
    own_accepted = back;
    opposite_accepted = ok;
    same_length = refl;
    same_speed = refl;
    same_purpose = refl;
    heights = ap reverse (mirror_heights r holds ok back) ∙ reverse-reverse (own_heights r);
    grade = ap neg_ℤ (mirror_grade r holds ok backward) ∙ neg_ℤ-neg_ℤ (road_grade r forward);
  }

pub lane_coming_back : LaneComingBack
unfolding mirror
lane_coming_back r most marks holds ok back within full = record {
  road_marked = answered r most marks ok within full;
  mirror_marked = answered (mirror r) most marks back within full;
  road_back = opposite_marks r (mirror r) most marks (mirror_opposite r holds ok back) within full;
  mirror_back = opposite_marks (mirror r) r most marks (opposite_mirror r holds ok back) within full;
}
