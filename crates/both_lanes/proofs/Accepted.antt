-- The mirror of an accepted road is refused 9 where its start height is out of range, and for nothing else: mirrored, curves are in order,
-- in their ranges and without a sharp break as they were, each by a law of one curve more at the end.
use Prim.Native.Nat.{ℕ, ◌-◌, ◌≤◌, ◌%◌, min}
use mathlib.Core.List.{List, [], ◌∷◌, ◌++◌}
use mathlib.Core.Path.{◌≡◌, refl, ◌∙◌}
use borrow.Author.Tests.{le-ltb, eq-eqb}
use native.Mathlib.Omega.{arith}
use lib.IntN.{ℤ, neg_ℤ, ◌-ℤ◌}
use lib.ListN.{length, length-append}
use lib.Seq.{take_at, length-take-le}
use lib.Signed.{◌≤ℤ◌}
use Rattle.whole.proofs.Int.{var, neg, reps, eq_by, le_by, le_to}
use Rattle.whole.proofs.Table.{Each}
use Rattle.std.specs.Prelude.{Ok, Err}
use Rattle.terms.specs.Answers.{outside_ℤ, refuse, unless, Verdict, accepted}
use Rattle.terms.specs.Limits.{first_version, second_version, least_speed, greatest_speed, first_decision, last_purpose, greatest_long_road, lowest_start, highest_start, greatest_curve_count, greatest_curve}
use Rattle.terms.specs.declared.Refusal.TheVariants.{StartOutside}
use Rattle.std.specs.Prelude.{Err}
use Rattle.terms.proofs.Laws.{GradeIn, not_outside, grade_not_outside}
use Rattle.road.specs.declared.Curve.{Curve}
use Rattle.road.specs.declared.Road.{Road}
use Rattle.road.specs.Road.{begin, end, half, start_of, curves_of, curve_verdict, curves_verdict, longest_road, numbers_verdict, verdict_up_to}
use Rattle.road.specs.Order.{Placed, InOrder, CurveInRange, NotSharp, Smooth}
use Rattle.road.proofs.Accepted.{accepted_road}
use Rattle.mirror.specs.Mirror.{turned, mirrored, last_grade, mirror}
use Rattle.both_lanes.specs.Mirroring.{MirrorAccepted}
use Rattle.both_lanes.proofs.Order.{mirrored_in_order}
use Rattle.both_lanes.proofs.Back.{grade_back}

-- ---- ranges: a grade with the sign changed stays in its range, and a length stays
pub neg_le : {x y : ℤ} → x ≤ℤ y → neg_ℤ y ≤ℤ neg_ℤ x
neg_le {x} {y} h = le_by (neg (var y)) (neg (var x)) (omega (arith, le_to h (var x) (var y)))

grade_in_back : {g : ℤ} → GradeIn g → GradeIn (neg_ℤ g)
grade_in_back h = (neg_le h.1, neg_le h.0)

last_grade_in : (g : ℤ) (cs : List Curve) → GradeIn g → Each CurveInRange cs → GradeIn (last_grade g cs)
unfolding last_grade
last_grade_in g [] h r = h
last_grade_in g (c ∷ cs) h r = last_grade_in c.grade_out cs (r.0.grade_low, r.0.grade_high) r.1

more_in_range : (cs : List Curve) (d : Curve) → Each CurveInRange cs → CurveInRange d → Each CurveInRange (cs ++ (d ∷ []))
more_in_range [] d r s = (s, tt)
more_in_range (c ∷ cs) d r s = (r.0, more_in_range cs d r.1 s)

mirrored_in_range : (n : ℕ) (g : ℤ) (cs : List Curve) → GradeIn g → Each CurveInRange cs → Each CurveInRange (mirrored n g cs)
unfolding mirrored
mirrored_in_range n g [] h r = tt
mirrored_in_range n g (c ∷ cs) h r =
    let back = grade_in_back h in
    more_in_range (mirrored n c.grade_out cs) (turned n g c)
    (mirrored_in_range n c.grade_out cs (r.0.grade_low, r.0.grade_high) r.1)
    record { grade_low = back.0; grade_high = back.1; short = r.0.short }

-- ---- sharp breaks: a plain break turns by as much from its other side
more_smooth : (g : ℤ) (cs : List Curve) (d : Curve) → Smooth g cs → NotSharp (last_grade g cs) d → Smooth g (cs ++ (d ∷ []))
unfolding last_grade
more_smooth g [] d s t = (t, tt)
more_smooth g (c ∷ cs) d s t = (s.0, more_smooth c.grade_out cs d s.1 t)

turn_back : (g k : ℤ) → neg_ℤ g -ℤ neg_ℤ k ≡ k -ℤ g
turn_back g k = let v = var g in let w = var k in eq_by (search reps) (search reps) (omega arith)

mirrored_smooth : (n : ℕ) (g : ℤ) (cs : List Curve) → Smooth g cs → Smooth (neg_ℤ (last_grade g cs)) (mirrored n g cs)
unfolding last_grade mirrored
mirrored_smooth n g [] s = tt
mirrored_smooth n g (c ∷ cs) s =
    let k = c.grade_out in
    more_smooth (neg_ℤ (last_grade k cs)) (mirrored n k cs) (turned n g c) (mirrored_smooth n k cs s.1)
    (rw (grade_back n k cs, turn_back g k) s.0)

-- ---- curves that are all this are accepted
sound_curve : (n : ℕ) (before c : Curve) → Placed n (end before) c → CurveInRange c → NotSharp before.grade_out c →
    curve_verdict n before c ≡ accepted
unfolding curve_verdict
sound_curve n before c p r s =
    simp (
      grade_not_outside c.grade_out (r.grade_low, r.grade_high),
      eq-eqb (c.length % 2) 0 p.even,
      le-ltb greatest_curve c.length r.short,
      le-ltb c.pvi (half c) p.from_zero,
      le-ltb n (end c) p.before_end,
      le-ltb (begin c) (end before) p.ordered,
      s,
    )

sound_curves : (n : ℕ) (before : Curve) (cs : List Curve) → InOrder n (end before) cs → Each CurveInRange cs →
    Smooth before.grade_out cs → curves_verdict n before cs ≡ accepted
unfolding curves_verdict
sound_curves n before [] o r s = refl
sound_curves n before (c ∷ cs) o r s = rw (sound_curve n before c o.0 r.0 s.0) (sound_curves n c cs o.1 r.1 s.1)

-- ---- the mirror
mirrored-length : (n : ℕ) (g : ℤ) (cs : List Curve) → length (mirrored n g cs) ≡ length cs
unfolding mirrored
mirrored-length n g [] = refl
mirrored-length n g (c ∷ cs) =
    length-append (mirrored n c.grade_out cs) (turned n g c ∷ []) ∙ omega (arith, mirrored-length n c.grade_out cs)

module _ (r : Road) (holds : r.count ≤ length r.curves) where
  pub mirror_curves : curves_of (mirror r) ≡ mirrored r.length r.first_grade (curves_of r)
  unfolding mirror
  mirror_curves = take_at _ _ r.count (mirrored-length _ _ (curves_of r) ∙ length-take-le r.count r.curves holds)

  -- its curves are all there
  pub mirror_holds : (mirror r).count ≤ length (mirror r).curves
  unfolding mirror
  mirror_holds =
      let n = mirrored-length r.length r.first_grade (curves_of r) in
      simp length-append (omega (arith, n, length-take-le r.count r.curves holds))

-- nothing behind a verdict is a fault
no_fault_behind : (v : Verdict) → unless v accepted ≡ v
no_fault_behind (Ok _) = refl
no_fault_behind (Err refusal) = refl

pub mirror_accepted : MirrorAccepted
unfolding verdict_up_to numbers_verdict mirror
mirror_accepted r holds ok =
    let s = accepted_road r ok in let n = r.length in let g = r.first_grade in let cs = curves_of r in
    let first : GradeIn g = (s.grade_low, s.grade_high) in
    let all : n - 0 ≡ n = omega arith in
    let order : InOrder n 0 (mirrored n g cs) = rw all at (mirrored_in_order n 0 g cs s.in_order) in
    let smooth = mirrored_smooth n g cs s.smooth in
    simp (
      not_outside first_version second_version r.version (s.version_low, s.version_high),
      le-ltb greatest_curve_count r.count s.count,
      not_outside least_speed greatest_speed r.speed (s.speed_low, s.speed_high),
      not_outside first_decision last_purpose r.purpose (s.purpose_low, s.purpose_high),
      not_outside 1 (min greatest_long_road (longest_road r.version)) n (s.length_low, omega (arith, s.length_high, s.length_of_version)),
      grade_not_outside _ (grade_in_back (last_grade_in g cs first s.in_range)),
      mirror_curves r holds,
      sound_curves n (start_of (mirror r)) (mirrored n g cs) order (mirrored_in_range n g cs first s.in_range) smooth,
    )
    (no_fault_behind (refuse (outside_ℤ lowest_start highest_start (mirror r).start_height) StartOutside accepted))
