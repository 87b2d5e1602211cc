-- The curves of a road turned one by one, each stored before those that are turned already: what holds after k of them, how one more
-- keeps it, and that all of them make the mirror.
use Prim.Native.Nat.{ℕ, suc, ◌+◌, ◌-◌, ◌≤◌, ◌<◌}
use mathlib.Core.List.{List, [], ◌∷◌, ◌++◌}
use mathlib.Core.Path.{◌≡◌, refl, sym, ap, ◌∙◌}
use native.Mathlib.Numerals.{add-one}
use native.Mathlib.Omega.{arith}
use lib.IntN.{ℤ, pos, neg_ℤ, ◌-ℤ◌, +ℤ_idl}
use lib.ListN.{length, take, drop, get_or, set, replicate, length-set, length-replicate, replicate-append-replicate, drop_of_length-le}
use lib.Seq.{set_split, append_snoc, drop_at, drop-cons, get_or-take, length-take-le}
use mir.Syntax.{w16}
use mir.Val.{SFits, to_z, of_z}
use Rattle.whole.proofs.Machine.{plain}
use Rattle.whole.proofs.Range.{Below, range_size, add_b, neg_b, nat_b, fits_by}
use Rattle.terms.specs.Limits.{greatest_grade, greatest_curve_count, greatest_long_road}
use Rattle.terms.specs.Answers.{accepted}
use Rattle.terms.proofs.Laws.{GradeIn}
use Rattle.road.specs.declared.Curve.{Curve}
use Rattle.road.specs.declared.Road.{Road}
use Rattle.road.specs.Road.{curves_of, no_curve, road_verdict}
use Rattle.road.specs.Order.{Placed, CurveInRange}
use Rattle.road.proofs.Accepted.{SoundRoad, accepted_road, accepted_curve_at}
use Rattle.heights.specs.Profile.{stored_height}
use Rattle.mirror.specs.Mirror.{turned, mirrored, last_grade, mirror}

-- the curves that are left, those of cs from place k on, come before those that are stored; the first of them has the grade in `grade`
pub record Turned (r : Road) (cs : List Curve) (k : ℕ) (grade : ℤ) (curves : List Curve) : Type 0 where
  pub places : length curves ≡ greatest_curve_count
  pub grade_in : GradeIn grade
  pub last : last_grade r.first_grade (curves_of r) ≡ last_grade grade (drop k cs)
  pub stored : (mirror r).curves ≡ mirrored r.length grade (drop k cs) ++ drop (length cs - k) curves

turned_none : (r : Road) → length (curves_of r) ≡ r.count → r.count ≤ greatest_curve_count → GradeIn r.first_grade →
    Turned r (curves_of r) 0 r.first_grade (replicate greatest_curve_count no_curve)
unfolding mirror
turned_none r used l g =
    let n = r.count in let m = greatest_curve_count - r.count in
    let all : n + m ≡ greatest_curve_count = omega arith in
    let zeros : drop n (replicate greatest_curve_count no_curve) ≡ replicate m no_curve
    = ap (drop n) (ap (λ (k : ℕ). replicate k no_curve) (sym all) ∙ sym (replicate-append-replicate n m no_curve)) ∙ drop_at (replicate n no_curve) (replicate m no_curve) n (length-replicate n no_curve) in
    let none : length (curves_of r) - 0 ≡ r.count = omega arith in
    record {
      places = length-replicate greatest_curve_count no_curve;
      grade_in = g;
      last = refl;
      stored = ap (λ (zs : List Curve). mirrored r.length r.first_grade (curves_of r) ++ zs) (sym (rw none zeros));
    }

-- from the place of a store on: what was stored, and the rest as it was
drop-set : {A : Type 0} (xs : List A) (i : ℕ) (x : A) → i < length xs → drop i (set xs i x) ≡ x ∷ drop (i + 1) xs
drop-set xs i x l =
    ap (drop i) (set_split xs i x l) ∙ drop_at (take i xs) (x ∷ drop (suc i) xs) i (length-take-le i xs (omega arith)) ∙ ap (λ (k : ℕ). x ∷ drop k xs) (sym (add-one i))

turned_more : (r : Road) (cs : List Curve) (k : ℕ) (grade : ℤ) (curves : List Curve) (c : Curve) → Turned r cs k grade curves → k < length cs →
    length cs ≤ greatest_curve_count → drop k cs ≡ c ∷ drop (k + 1) cs → GradeIn c.grade_out →
    Turned r cs (k + 1) c.grade_out (set curves (length cs - 1 - k) (turned r.length grade c))
unfolding mirrored last_grade
turned_more r cs k grade curves c t l few next out =
    let at = length cs - 1 - k in
    let here : length cs - (k + 1) ≡ at = omega arith in
    let behind : at + 1 ≡ length cs - k = omega arith in
    record {
      places = length-set curves at _ ∙ t.places;
      grade_in = out;
      last = rw next at t.last;
      stored = (rw next at t.stored) ∙ rw (here, drop-set curves at (turned r.length grade c) (omega (arith, t.places, few)), behind) (append_snoc (mirrored r.length c.grade_out (drop (k + 1) cs)) (turned r.length grade c) (drop (length cs - k) curves));
    }

turned_all : (r : Road) (cs : List Curve) (k : ℕ) (grade : ℤ) (curves : List Curve) → length cs ≤ k → Turned r cs k grade curves →
    (last_grade r.first_grade (curves_of r) ≡ grade) × ((mirror r).curves ≡ curves)
unfolding mirrored last_grade
turned_all r cs k grade curves past t =
    let none : drop k cs ≡ [] = drop_of_length-le cs past in
    let all : length cs - k ≡ 0 = omega arith in
    (rw none at t.last, rw (none, all) at t.stored)

-- ---- a grade with the sign changed
abbrev grade_size : {g : ℤ} → GradeIn g → Below g
grade_size {g} h = record { b = greatest_grade; ok = range_size {a = greatest_grade} g (omega arith) h.0 h.1 }

grade_read : {g : ℤ} → GradeIn g → to_z w16 (of_z w16 g) ≡ g
grade_read h = let f : SFits w16 _ = fits_by (grade_size h) tt in plain f

turned_fits : (g : ℤ) → GradeIn g → SFits w16 (pos 0 -ℤ g)
turned_fits g h = fits_by (add_b (nat_b 0 (omega arith)) (neg_b (grade_size h))) tt

turned_read : (g : ℤ) → GradeIn g → to_z w16 (of_z w16 (pos 0 -ℤ g)) ≡ neg_ℤ g
turned_read g h = plain (turned_fits g h) ∙ +ℤ_idl (neg_ℤ g)

-- ---- the same, as `mirror_from` meets it: the road is accepted, cs are its curves in use, and what was stored is read back from its bits
module _ (r : Road) (e : road_verdict r ≡ accepted) (places : length r.curves ≡ greatest_curve_count) (cs : List Curve) (used : cs ≡ curves_of r) where
  sound : SoundRoad greatest_long_road r
  sound = accepted_road r e

  holds : r.count ≤ length r.curves
  holds = omega (arith, sound.count)

  as_many : length (curves_of r) ≡ r.count
  as_many = length-take-le r.count r.curves holds

  pub few : length cs ≤ greatest_curve_count
  few = rw (used, as_many) sound.count

  here : (k : ℕ) (d : Curve) → k < length cs → Placed r.length 0 (get_or cs k d) × CurveInRange (get_or cs k d)
  here k d more =
      let more : k < r.count = rw (used, as_many) at more in
      rw (used, get_or-take r.count r.curves k d more) (accepted_curve_at greatest_long_road r e holds k d more)

  pub pvi_on_road : (k : ℕ) (d : Curve) → k < length cs → (get_or cs k d).pvi ≤ r.length
  pvi_on_road k d more = omega (arith, (here k d more).0.before_end)

  pub mirror_begun : Turned r cs 0 (to_z w16 (of_z w16 r.first_grade)) (replicate greatest_curve_count no_curve)
  mirror_begun =
      let first : GradeIn r.first_grade = (sound.grade_low, sound.grade_high) in
      rw (used, grade_read first) (turned_none r as_many sound.count first)

  pub mirror_more : (k : ℕ) (d : Curve) (grade : ℤ) (curves : List Curve) → Turned r cs k grade curves → k < length cs →
      Turned r cs (k + 1) (to_z w16 (of_z w16 (get_or cs k d).grade_out))
      (set curves (length cs - 1 - k) record {
        pvi = r.length - (get_or cs k d).pvi;
        length = (get_or cs k d).length;
        grade_out = to_z w16 (of_z w16 (pos 0 -ℤ grade));
      })
  mirror_more k d grade curves t more =
      let range = (here k d more).1 in let out : GradeIn (get_or cs k d).grade_out = (range.grade_low, range.grade_high) in
      rw (grade_read out, turned_read grade t.grade_in) (turned_more r cs k grade curves _ t more few (rw add-one (drop-cons cs k d more)) out)

  pub mirror_done : (k : ℕ) (grade start : ℤ) (curves : List Curve) → Turned r cs k grade curves → length cs ≤ k → start ≡ stored_height r r.length →
      ◌≡◌ {A = Road}
      record {
        version = r.version;
        speed = r.speed;
        purpose = r.purpose;
        length = r.length;
        start_height = start;
        first_grade = to_z w16 (of_z w16 (pos 0 -ℤ grade));
        count = r.count;
        curves = curves;
      }
      (mirror r)
  unfolding mirror
  mirror_done k grade start curves t all begins =
      let done = turned_all r cs k grade curves all t in
      rw (begins, turned_read grade t.grade_in, done.0, done.1) refl

-- ---- for `mirror_from`
pub ruleset turning = (mirror_begun, mirror_more, mirror_done)
