-- What acceptance says, both ways: every number is in its range, and where all are, the operation is accepted.
use Prim.Native.Nat.{ℕ, ◌≤◌, ◌<◌}
use mathlib.Core.Path.{◌≡◌}
use native.Mathlib.Omega.{arith}
use borrow.Author.Tests.{lt-leb}
use lib.Dec.{leb, nleb→lt}
use lib.IntN.{ℤ}
use mir.Facts.{or_no}
use Rattle.terms.specs.Answers.{outside, grade_outside, list_outside, eye_or_object_outside, accepted}
use Rattle.terms.specs.Limits.{least_speed, greatest_speed, first_decision, last_purpose, greatest_height, greatest_list, greatest_farthest}
use Rattle.terms.proofs.Laws.{GradeIn, refuse_accepted, inside, not_outside, heights_not_outside, grade_inside, grade_not_outside}
use Rattle.verdicts.specs.Verdicts.{look_verdict, sight_verdict, profile_verdict, marks_verdict, passing_verdict}

-- ---- a look from an eye to an object
pub record LookInRange (e o far : ℕ) : Type 0 where
  pub eye : (1 ≤ e) × (e ≤ greatest_height)
  pub object : (1 ≤ o) × (o ≤ greatest_height)
  pub farthest : (1 ≤ far) × (far ≤ greatest_farthest)

module _ (e o far : ℕ) where
  look_in_range : look_verdict e o far ≡ accepted → LookInRange e o far
  unfolding look_verdict
  look_in_range a =
      let heights = refuse_accepted (eye_or_object_outside e o) _ _ a in
      let each = or_no (outside 1 greatest_height e) (outside 1 greatest_height o) heights.0 in
      let farthest = refuse_accepted (outside 1 greatest_farthest far) _ _ heights.1 in
      record {
        eye = inside 1 greatest_height e each.0;
        object = inside 1 greatest_height o each.1;
        farthest = inside 1 greatest_farthest far farthest.0;
      }

  look_accepted : LookInRange e o far → look_verdict e o far ≡ accepted
  unfolding look_verdict
  look_accepted r = rw (heights_not_outside e o r.eye r.object, not_outside 1 greatest_farthest far r.farthest)

-- ---- over n heights
-- the sight profile
module _ (n e o far : ℕ) where
  pub profile_in_range : profile_verdict n e o far ≡ accepted → ((1 ≤ n) × (n ≤ greatest_list)) × LookInRange e o far
  unfolding profile_verdict
  profile_in_range a =
      let list = refuse_accepted (list_outside n) _ _ a in
      (inside 1 greatest_list n list.0, look_in_range e o far list.1)

  pub profile_accepted : (1 ≤ n) × (n ≤ greatest_list) → LookInRange e o far → profile_verdict n e o far ≡ accepted
  unfolding profile_verdict
  profile_accepted l r = rw (not_outside 1 greatest_list n l, look_accepted e o far r)

-- sight from station i
module _ (n i e o far : ℕ) where
  pub sight_in_range : sight_verdict n i e o far ≡ accepted → (i < n) × (n ≤ greatest_list) × LookInRange e o far
  unfolding sight_verdict
  sight_in_range a =
      let list = refuse_accepted (list_outside n) _ _ a in
      let station = refuse_accepted (leb n i) _ _ list.1 in
      (nleb→lt n i station.0, (inside 1 greatest_list n list.0).1, look_in_range e o far station.1)

  pub sight_accepted : i < n → n ≤ greatest_list → LookInRange e o far → sight_verdict n i e o far ≡ accepted
  unfolding sight_verdict
  sight_accepted on l r = rw (not_outside 1 greatest_list n (omega arith, l), lt-leb n i on, look_accepted e o far r)

-- marks
pub record MarksInRange (speed purpose : ℕ) (grade : ℤ) (n : ℕ) : Type 0 where
  pub speed_in : (least_speed ≤ speed) × (speed ≤ greatest_speed)
  pub purpose_in : (first_decision ≤ purpose) × (purpose ≤ last_purpose)
  pub grade_in : GradeIn grade
  pub stations : (1 ≤ n) × (n ≤ greatest_list)

module _ (speed purpose : ℕ) (grade : ℤ) (n : ℕ) where
  pub marks_in_range : marks_verdict speed purpose grade n ≡ accepted → MarksInRange speed purpose grade n
  unfolding marks_verdict
  marks_in_range a =
      let fast = refuse_accepted (outside least_speed greatest_speed speed) _ _ a in
      let known = refuse_accepted (outside first_decision last_purpose purpose) _ _ fast.1 in
      let sloped = refuse_accepted (grade_outside grade) _ _ known.1 in
      record {
        speed_in = inside least_speed greatest_speed speed fast.0;
        purpose_in = inside first_decision last_purpose purpose known.0;
        grade_in = grade_inside grade sloped.0;
        stations = inside 1 greatest_list n (refuse_accepted (list_outside n) _ _ sloped.1).0;
      }

  pub marks_accepted : MarksInRange speed purpose grade n → marks_verdict speed purpose grade n ≡ accepted
  unfolding marks_verdict
  marks_accepted r =
      rw (
        not_outside least_speed greatest_speed speed r.speed_in,
        not_outside first_decision last_purpose purpose r.purpose_in,
        grade_not_outside grade r.grade_in,
        not_outside 1 greatest_list n r.stations,
      )

-- passing marks
module _ (n R : ℕ) where
  pub passing_in_range : passing_verdict n R ≡ accepted → ((1 ≤ n) × (n ≤ greatest_list)) × ((1 ≤ R) × (R ≤ greatest_farthest))
  unfolding passing_verdict
  passing_in_range a =
      let list = refuse_accepted (list_outside n) _ _ a in
      (inside 1 greatest_list n list.0, inside 1 greatest_farthest R (refuse_accepted (outside 1 greatest_farthest R) _ _ list.1).0)

  pub passing_accepted : (1 ≤ n) × (n ≤ greatest_list) → (1 ≤ R) × (R ≤ greatest_farthest) → passing_verdict n R ≡ accepted
  unfolding passing_verdict
  passing_accepted l r = rw (not_outside 1 greatest_list n l, not_outside 1 greatest_farthest R r)
