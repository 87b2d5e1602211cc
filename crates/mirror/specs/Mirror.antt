-- docs/RULES.md, "The lane coming back": the mirror of a road.
use Rattle.std.specs.Prelude.{ℕ, ◌-◌, List, [], ◌∷◌, ◌++◌, ℤ, neg_ℤ, replicate}
use Rattle.terms.specs.Answers.{unless, Verdict}
use Rattle.terms.specs.Limits.{greatest_curve_count}
use Rattle.road.specs.declared.Curve.{Curve}
use Rattle.road.specs.declared.Road.{Road}
use Rattle.road.specs.Road.{curves_of, no_curve, road_verdict}
use Rattle.heights.specs.Profile.{stored_height}
use Rattle.file.specs.Reading.{road_or_none}
use Rattle.mirror.specs.declared.Mirrored.{Mirrored}

-- a curve with its PVI counted from n; its grade in, g, with the sign changed is its grade out
abbrev pub turned : ℕ → ℤ → Curve → Curve
turned n g c = record { pvi = n - c.pvi; length = c.length; grade_out = neg_ℤ g }

-- the curves turned, in reverse order; g is the grade in of the first
unfoldable pub mirrored : ℕ → ℤ → List Curve → List Curve
mirrored n g [] = []
mirrored n g (c ∷ cs) = mirrored n c.grade_out cs ++ (turned n g c ∷ [])

-- the grade behind the last curve
unfoldable pub last_grade : ℤ → List Curve → ℤ
last_grade g [] = g
last_grade g (c ∷ cs) = last_grade c.grade_out cs

-- the mirror starts at the road's end height, with the curves in reverse order, each PVI counted from N, all grades in reverse order
-- with the sign changed, and the rest kept; the other curve places are zero
unfoldable pub mirror : Road → Road
mirror r = record {
  version = r.version;
  speed = r.speed;
  purpose = r.purpose;
  length = r.length;
  start_height = stored_height r r.length;
  first_grade = neg_ℤ (last_grade r.first_grade (curves_of r));
  count = r.count;
  curves = mirrored r.length r.first_grade (curves_of r) ++ replicate (greatest_curve_count - r.count) no_curve;
}

-- refused as the road is, then as its mirror is
unfoldable pub mirror_verdict : Road → Verdict
mirror_verdict r = unless (road_verdict r) (road_verdict (mirror r))

-- the verdict and beside it the mirror, all zero where it is refused
unfoldable pub mirror_of : Road → Mirrored
mirror_of r = record { verdict = mirror_verdict r; road = road_or_none (mirror_verdict r) (mirror r) }
