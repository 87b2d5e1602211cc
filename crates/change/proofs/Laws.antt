-- Laws of a changed length: the curves in use of the changed road, the refusal of a length over 2,000, and what acceptance says.
use Prim.Native.Nat.{ℕ, zero, suc, ◌%◌, ◌≤◌, ◌<◌}
use mathlib.Core.Bool.{Bool, true, false, not, ◌||◌}
use mathlib.Core.List.{List, [], ◌∷◌}
use mathlib.Core.Path.{◌≡◌, refl, sym, ◌∙◌}
use native.Mathlib.Omega.{arith}
use borrow.Author.Tests.{lt-leb, lt-ltb, le-ltb}
use lib.Dec.{leb, ltb, eqb, nltb→le, nleb→lt}
use lib.ListN.{length, get_or, set}
use lib.Seq.{get_or-take, set-get_or, take-set-lt, length-take-le}
use Rattle.terms.specs.Answers.{outside, grade_outside, accepted}
use Rattle.terms.specs.Limits.{first_version, second_version, greatest_curve, greatest_curve_count}
use Rattle.terms.specs.declared.Refusal.TheVariants.{WrongVersion, TooManyCurves, GradeOutside, WrongCurveLength, NoCurve}
use Rattle.std.specs.Prelude.{Err}
use Rattle.terms.proofs.Laws.{grade_inside, grade_not_outside, refused_not_ok, refuse_accepted, unless_accepted, inside}
use Rattle.road.specs.declared.Curve.{Curve}
use Rattle.road.specs.declared.Road.{Road}
use Rattle.road.specs.Road.{no_curve, start_of, curves_of, curve_verdict, curves_verdict, numbers_verdict, verdict_up_to}
use Rattle.change.specs.Change.{of_length, with_length, change_verdict}

-- ---- the curves in use of the changed road
changed_curves : (r : Road) (k l : ℕ) → k < r.count →
    curves_of (with_length r k l) ≡ set (curves_of r) k (of_length l (get_or (curves_of r) k no_curve))
unfolding with_length
changed_curves r k l h = rw (get_or-take r.count r.curves k no_curve h) (take-set-lt r.count r.curves k _ h)

-- the length that a curve has gives the road itself
pub unchanged_length : (r : Road) (k : ℕ) → with_length r k (get_or r.curves k no_curve).length ≡ r
unfolding with_length
unchanged_length r k = rw (set-get_or r.curves k no_curve) refl

-- ---- a length over 2,000 is refused 11, whatever comes behind it
or_right : (a b : Bool) → b ≡ true → a || b ≡ true
or_right true b e = refl
or_right false b e = e

long_curve : (n : ℕ) (before c : Curve) (l : ℕ) → greatest_curve < l → curve_verdict n before c ≡ accepted →
    curve_verdict n before (of_length l c) ≡ Err WrongCurveLength
unfolding curve_verdict
long_curve n before c l over e =
    let g = c.grade_out in
    let grade = refuse_accepted (grade_outside g) GradeOutside _ e in
    simp (grade_not_outside g (grade_inside g grade.0), or_right (not (eqb (l % 2) 0)) (ltb greatest_curve l) (lt-ltb greatest_curve l over))

long_curves : (n : ℕ) (before : Curve) (cs : List Curve) (k l : ℕ) → greatest_curve < l → k < length cs →
    curves_verdict n before cs ≡ accepted →
    curves_verdict n before (set cs k (of_length l (get_or cs k no_curve))) ≡ Err WrongCurveLength
unfolding curves_verdict
long_curves n before [] k l over h e = absurd (omega arith)
long_curves n before (c ∷ cs) zero l over h e =
    rw (long_curve n before c l over (unless_accepted (curve_verdict n before c) _ e).0) refl
long_curves n before (c ∷ cs) (suc k) l over h e =
    let both = unless_accepted (curve_verdict n before c) _ e in
    rw both.0 (long_curves n c cs k l over (omega arith) both.1)

numbers_stay : (most : ℕ) (r : Road) (k l : ℕ) → numbers_verdict most (with_length r k l) ≡ numbers_verdict most r
unfolding numbers_verdict with_length
numbers_stay most r k l = refl

pub changed_too_long : (most : ℕ) (r : Road) → length r.curves ≡ greatest_curve_count → (k l : ℕ) → verdict_up_to most r ≡ accepted → k < r.count →
    greatest_curve < l → verdict_up_to most (with_length r k l) ≡ Err WrongCurveLength
unfolding verdict_up_to with_length
changed_too_long most r places k l e h over =
    let version = refuse_accepted (outside first_version second_version r.version) WrongVersion _ e in
    let which = inside first_version second_version r.version version.0 in
    let count = refuse_accepted (ltb greatest_curve_count r.count) TooManyCurves _ version.1 in
    let few = nltb→le greatest_curve_count r.count count.0 in
    let both = unless_accepted (numbers_verdict most r) _ count.1 in
    let used = length-take-le r.count r.curves (omega arith) in
    rw (le-ltb r.version first_version which.0, le-ltb second_version r.version which.1, le-ltb greatest_curve_count r.count few, numbers_stay most r k l ∙ both.0, changed_curves r k l h)
    (long_curves r.length (start_of r) (curves_of r) k l over (omega arith) both.1)

-- ---- what an accepted change says
pub accepted_change : (most : ℕ) (r : Road) (k l : ℕ) → change_verdict most r k l ≡ accepted →
    (verdict_up_to most r ≡ accepted) × (k < r.count) × (verdict_up_to most (with_length r k l) ≡ accepted)
unfolding change_verdict
accepted_change most r k l e =
    let both = unless_accepted (verdict_up_to most r) _ e in
    let place = refuse_accepted (leb r.count k) NoCurve _ both.1 in
    (both.0, nleb→lt r.count k place.0, place.1)

-- its length is one that a curve may have
pub accepted_length : (most : ℕ) (r : Road) → length r.curves ≡ greatest_curve_count → (k l : ℕ) → change_verdict most r k l ≡ accepted → l ≤ greatest_curve
accepted_length most r places k l e =
    let a = accepted_change most r k l e in
    let not-over : greatest_curve < l → ⊥ = λ over. refused_not_ok (sym (changed_too_long most r places k l a.0 a.1 over) ∙ a.2) in
    omega (arith, not-over)

-- the refusal of such a length, as the code tests for it
pub over_long : (most : ℕ) (r : Road) (k l : ℕ) → length r.curves ≡ greatest_curve_count → accepted ≡ verdict_up_to most r → k < r.count → greatest_curve < l →
    Err WrongCurveLength ≡ change_verdict most r k l
unfolding change_verdict
over_long most r k l places e h over =
    sym (rw (sym e, lt-leb r.count k h) (changed_too_long most r places k l (sym e) h over))
