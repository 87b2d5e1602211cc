-- Curves in order along a road, which is all that the shape of the profile asks of them, apart from the ranges of their numbers.
-- And curves without a sharp break. Private contracts and laws alone cite it: nothing here need be believed.
use Rattle.std.specs.Prelude.{ℕ, ◌%◌, ◌≤◌, false, List, [], ◌∷◌, ◌≡◌, ℤ, pos, neg_ℤ, ◌≤ℤ◌}
use Rattle.terms.specs.Limits.{greatest_grade, greatest_curve}
use Rattle.road.specs.declared.Curve.{Curve}
use Rattle.road.specs.Road.{half, begin, end, sharp_break}

-- a curve of even length on a road of length n, no earlier than station last
pub record Placed (n last : ℕ) (c : Curve) : Type 0 where
  pub even : c.length % 2 ≡ 0
  pub from_zero : half c ≤ c.pvi
  pub before_end : end c ≤ n
  pub ordered : last ≤ begin c

-- the curves in turn, each no earlier than the one listed just before it ends
abbrev pub InOrder : ℕ → ℕ → List Curve → Type 0
InOrder n last [] = Unit {0}
InOrder n last (c ∷ cs) = Placed n last c × InOrder n (end c) cs

-- a curve whose grade out and length are in their ranges
pub record CurveInRange (c : Curve) : Type 0 where
  pub grade_low : neg_ℤ (pos greatest_grade) ≤ℤ c.grade_out
  pub grade_high : c.grade_out ≤ℤ pos greatest_grade
  pub short : c.length ≤ greatest_curve

-- a curve with the grade in g that is no sharp break
abbrev pub NotSharp : ℤ → Curve → Type 0
NotSharp g c = sharp_break record { pvi = 0; length = 0; grade_out = g } c ≡ false

-- the curves in turn, the first with the grade in g
abbrev pub Smooth : ℤ → List Curve → Type 0
Smooth g [] = Unit {0}
Smooth g (c ∷ cs) = NotSharp g c × Smooth c.grade_out cs
