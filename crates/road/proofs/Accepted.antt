-- What acceptance says: every number of an accepted road is in its range, and its curves are in order, in their ranges and no sharp breaks.
use Prim.Native.Nat.{ℕ, zero, suc, ◌≤◌, ◌<◌, ◌%◌, min}
use mathlib.Core.Bool.{Bool, true, false, not}
use mathlib.Core.List.{List, [], ◌∷◌}
use mathlib.Core.Path.{◌≡◌, refl}
use native.Mathlib.Omega.{arith}
use mir.Facts.{or_no}
use lib.Dec.{T, ltb, eqb, nltb→le}
use lib.IntN.{pos, neg_ℤ}
use lib.ListN.{length, get_or}
use lib.Seq.{get_or-take, length-take-le}
use lib.Signed.{◌≤ℤ◌}
use Rattle.whole.proofs.Table.{Each}
use Rattle.terms.specs.Answers.{outside, outside_ℤ, grade_outside, accepted}
use Rattle.terms.specs.Limits.{first_version, second_version, least_speed, greatest_speed, first_decision, last_purpose, lowest_start, highest_start, greatest_grade, greatest_curve_count, greatest_curve}
use Rattle.terms.specs.declared.Refusal.TheVariants.{WrongVersion, TooManyCurves, SpeedOutside, WrongPurpose, RoadLengthOutside, StartOutside, GradeOutside, WrongCurveLength, CurveOffRoad, CurvesOverlap, SharpBreak}
use Rattle.terms.proofs.Laws.{refuse_accepted, unless_accepted, no_difference, inside, inside_ℤ}
use Rattle.road.specs.declared.Curve.{Curve}
use Rattle.road.specs.declared.Road.{Road}
use Rattle.road.specs.Road.{half, begin, end, start_of, curves_of, length_outside, place_outside, sharp_break, curve_verdict, curves_verdict, longest_road, numbers_verdict, verdict_up_to}
use Rattle.road.specs.Order.{Placed, InOrder, CurveInRange, NotSharp, Smooth}

-- ---- curves
is_false : (test : Bool) → T (not test) → test ≡ false
is_false true t = absurd t
is_false false t = refl

accepted_curve : (n : ℕ) (before c : Curve) → curve_verdict n before c ≡ accepted →
    Placed n (end before) c × CurveInRange c × NotSharp before.grade_out c
unfolding curve_verdict
accepted_curve n before c e =
    let grade = refuse_accepted (grade_outside c.grade_out) GradeOutside _ e in
    let size = refuse_accepted (length_outside c) WrongCurveLength _ grade.1 in
    let place = refuse_accepted (place_outside n c) CurveOffRoad _ size.1 in
    let order = refuse_accepted (ltb (begin c) (end before)) CurvesOverlap _ place.1 in
    let sharp = refuse_accepted (sharp_break before c) SharpBreak _ order.1 in
    let g = inside_ℤ (neg_ℤ (pos greatest_grade)) (pos greatest_grade) c.grade_out grade.0 in
    let s = or_no (not (eqb (c.length % 2) 0)) (ltb greatest_curve c.length) size.0 in
    let p = or_no (ltb c.pvi (half c)) (ltb n (end c)) place.0 in (
      record {
        even = no_difference (c.length % 2) 0 s.0;
        from_zero = nltb→le c.pvi (half c) p.0;
        before_end = nltb→le n (end c) p.1;
        ordered = nltb→le (begin c) (end before) order.0;
      },
      record { grade_low = g.0; grade_high = g.1; short = nltb→le greatest_curve c.length s.1 },
      is_false (sharp_break before c) sharp.0,
    )

accepted_curves : (n : ℕ) (before : Curve) (cs : List Curve) → curves_verdict n before cs ≡ accepted →
    InOrder n (end before) cs × Each CurveInRange cs × Smooth before.grade_out cs
unfolding curves_verdict
accepted_curves n before [] e = (tt, tt, tt)
accepted_curves n before (c ∷ cs) e =
    let both = unless_accepted (curve_verdict n before c) _ e in
    let here = accepted_curve n before c both.0 in let rest = accepted_curves n c cs both.1 in
    ((here.0, rest.0), (here.1, rest.1), (here.2, rest.2))

-- ---- a road
-- every number of the road is in its range, where none over `most` metres is taken, and its curves are in order, in their ranges and no
-- sharp breaks
pub record SoundRoad (most : ℕ) (r : Road) : Type 0 where
  pub version_low : first_version ≤ r.version
  pub version_high : r.version ≤ second_version
  pub count : r.count ≤ greatest_curve_count
  pub speed_low : least_speed ≤ r.speed
  pub speed_high : r.speed ≤ greatest_speed
  pub purpose_low : first_decision ≤ r.purpose
  pub purpose_high : r.purpose ≤ last_purpose
  pub length_low : 1 ≤ r.length
  pub length_high : r.length ≤ most
  pub length_of_version : r.length ≤ longest_road r.version
  pub start_low : lowest_start ≤ℤ r.start_height
  pub start_high : r.start_height ≤ℤ highest_start
  pub grade_low : neg_ℤ (pos greatest_grade) ≤ℤ r.first_grade
  pub grade_high : r.first_grade ≤ℤ pos greatest_grade
  pub in_order : InOrder r.length 0 (curves_of r)
  pub in_range : Each CurveInRange (curves_of r)
  pub smooth : Smooth r.first_grade (curves_of r)

pub accepted_road : {most : ℕ} (r : Road) → verdict_up_to most r ≡ accepted → SoundRoad most r
unfolding verdict_up_to numbers_verdict
accepted_road {most} r e =
    let longest = min most (longest_road r.version) in
    let version = refuse_accepted (outside first_version second_version r.version) WrongVersion _ e in
    let count = refuse_accepted (ltb greatest_curve_count r.count) TooManyCurves _ version.1 in
    let both = unless_accepted (numbers_verdict most r) _ count.1 in
    let speed = refuse_accepted (outside least_speed greatest_speed r.speed) SpeedOutside _ both.0 in
    let purpose = refuse_accepted (outside first_decision last_purpose r.purpose) WrongPurpose _ speed.1 in
    let length = refuse_accepted (outside 1 longest r.length) RoadLengthOutside _ purpose.1 in
    let start = refuse_accepted (outside_ℤ lowest_start highest_start r.start_height) StartOutside _ length.1 in
    let grade = refuse_accepted (grade_outside r.first_grade) GradeOutside _ start.1 in
    let which = inside first_version second_version r.version version.0 in
    let v = inside least_speed greatest_speed r.speed speed.0 in
    let p = inside first_decision last_purpose r.purpose purpose.0 in
    let l = inside 1 longest r.length length.0 in
    let high : r.length ≤ most = omega (arith, l.1) in
    let of-version : r.length ≤ longest_road r.version = omega (arith, l.1) in
    let h = inside_ℤ lowest_start highest_start r.start_height start.0 in
    let g = inside_ℤ (neg_ℤ (pos greatest_grade)) (pos greatest_grade) r.first_grade grade.0 in
    let n = nltb→le greatest_curve_count r.count count.0 in
    let curves = accepted_curves r.length (start_of r) (curves_of r) both.1 in
    search

-- ---- one of its curves
curve_at_lem : (n last : ℕ) (cs : List Curve) (i : ℕ) (d : Curve) → InOrder n last cs → Each CurveInRange cs → i < length cs →
    Placed n 0 (get_or cs i d) × CurveInRange (get_or cs i d)
curve_at_lem n last [] i d order ranges h = absurd (omega arith)
curve_at_lem n last (c ∷ cs) zero d order ranges h =
    let p = order.0 in
    (record { even = p.even; from_zero = p.from_zero; before_end = p.before_end; ordered = omega arith }, ranges.0)
curve_at_lem n last (c ∷ cs) (suc i) d order ranges h = curve_at_lem n (end c) cs i d order.1 ranges.1 (omega arith)

pub accepted_curve_at : (most : ℕ) (r : Road) → verdict_up_to most r ≡ accepted → r.count ≤ length r.curves → (i : ℕ) (d : Curve) → i < r.count →
    Placed r.length 0 (get_or r.curves i d) × CurveInRange (get_or r.curves i d)
accepted_curve_at most r e holds i d h =
    let s = accepted_road {most = most} r e in let used = length-take-le r.count r.curves holds in
    rw (get_or-take r.count r.curves i d h) at (curve_at_lem r.length 0 (curves_of r) i d s.in_order s.in_range (omega arith))
