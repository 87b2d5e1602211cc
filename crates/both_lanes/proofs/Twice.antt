-- Mirrored twice a road is the same: curve by curve, since the last curve mirrored is the first of the mirror's, and its start is the
-- height at station 0.
use Prim.Native.Nat.{ℕ, ◌-◌, ◌≤◌}
use mathlib.Core.List.{List, [], ◌∷◌, ◌++◌}
use mathlib.Core.Path.{◌≡◌, refl, sym, ap, ◌∙◌}
use native.Mathlib.Omega.{arith}
use lib.IntN.{ℤ, neg_ℤ, neg_ℤ-neg_ℤ}
use Rattle.road.specs.declared.Curve.{Curve}
use Rattle.road.specs.Road.{end, curves_of}
use Rattle.road.specs.Order.{InOrder}
use Rattle.road.proofs.Accepted.{accepted_road}
use Rattle.heights.specs.Profile.{stored_height}
use Rattle.heights.proofs.Walked.{stored_start}
use Rattle.mirror.specs.Mirror.{turned, mirrored, last_grade, mirror}
use Rattle.both_lanes.specs.Mirroring.{MirroredTwice}
use Rattle.both_lanes.proofs.Back.{grade_back}
use Rattle.both_lanes.proofs.Accepted.{mirror_curves, mirror_holds}
use Rattle.both_lanes.proofs.Heights.{mirror_height}

-- one curve more at the end comes first
mirrored_more : (n : ℕ) (g : ℤ) (cs : List Curve) (d : Curve) → mirrored n g (cs ++ (d ∷ [])) ≡ turned n (last_grade g cs) d ∷ mirrored n g cs
unfolding mirrored last_grade
mirrored_more n g [] d = refl
mirrored_more n g (c ∷ cs) d = ap (λ (ds : List Curve). ds ++ (turned n g c ∷ [])) (mirrored_more n c.grade_out cs d)

turned_twice : (n : ℕ) (g : ℤ) (c : Curve) → c.pvi ≤ n → turned n (neg_ℤ c.grade_out) (turned n g c) ≡ c
turned_twice n g c l =
    let back : n - (n - c.pvi) ≡ c.pvi = omega arith in
    rw (back, neg_ℤ-neg_ℤ c.grade_out) refl

mirrored_twice_curves : (n last : ℕ) (g : ℤ) (cs : List Curve) → InOrder n last cs → mirrored n (neg_ℤ (last_grade g cs)) (mirrored n g cs) ≡ cs
unfolding mirrored last_grade
mirrored_twice_curves n last g [] o = refl
mirrored_twice_curves n last g (c ∷ cs) o =
    let k = c.grade_out in
    mirrored_more n (neg_ℤ (last_grade k cs)) (mirrored n k cs) (turned n g c)
    ∙ rw (grade_back n k cs, turned_twice n g c (omega (arith, o.0.before_end)), mirrored_twice_curves n (end c) k cs o.1) refl

pub mirrored_twice : MirroredTwice
unfolding mirror
mirrored_twice r holds ok =
    let s = accepted_road r ok in let n = r.length in let g = r.first_grade in let cs = curves_of r in
    let none : n - n ≡ 0 = omega arith in
    record {
      version = refl;
      speed = refl;
      purpose = refl;
      length = refl;
      start = mirror_height r holds ok n (omega arith) ∙ ap (stored_height r) none ∙ sym (stored_start r);
      grade = ap (λ (ds : List Curve). neg_ℤ (last_grade (neg_ℤ (last_grade g cs)) ds)) (mirror_curves r holds) ∙ ap neg_ℤ (grade_back n g cs) ∙ neg_ℤ-neg_ℤ g;
      count = refl;
      curves = mirror_curves (mirror r) (mirror_holds r holds) ∙ ap (mirrored n (neg_ℤ (last_grade g cs))) (mirror_curves r holds) ∙ mirrored_twice_curves n 0 g cs s.in_order;
    }
