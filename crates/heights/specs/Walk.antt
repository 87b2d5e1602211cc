-- A walk along the profile, for the functions that fill the heights: where it leads, and the heights ahead of it.
-- Private contracts alone cite it: nothing here need be believed.
use Rattle.std.specs.Prelude.{ℕ, ◌+◌, ◌-◌, ◌≤◌, List, ◌≡◌, ℤ}
use Rattle.whole.specs.Floor.{floor}
use Rattle.whole.specs.Fractions.{Frac}
use Rattle.terms.specs.Limits.{greatest_long_road}
use Rattle.road.specs.declared.Curve.{Curve}
use Rattle.road.specs.Road.{end}
use Rattle.road.specs.Order.{CurveInRange}
use Rattle.heights.specs.declared.Walk.{Walk}
use Rattle.heights.specs.Profile.{straight, on_curve, exact_from}

-- station to lies ahead of station x, on the road
pub record StraightTo (x to : ℕ) : Type 0 where
  pub ahead : x ≤ to
  pub on_road : to ≤ greatest_long_road

-- a curve on the road begins at station x
pub record CurveHere (x : ℕ) (c : Curve) : Type 0 where
  pub curve : CurveInRange c
  pub here : x + c.length ≡ end c
  pub on_road : end c ≤ greatest_long_road

-- the height at station x: on along the straight; on a curve that begins here; with the curves cs ahead
abbrev pub height_along : Walk → ℕ → ℤ
height_along at x = straight at.height at.grade (x - at.station)

abbrev pub height_over : Walk → Curve → ℕ → ℤ
height_over at c x = floor (on_curve at.height at.grade c.grade_out c.length (x - at.station))

abbrev pub exact_ahead : Walk → List Curve → ℕ → Frac
exact_ahead at cs x = exact_from at.station at.height at.grade cs x
