-- Laws of the passing distance: that its parts are equations (19) and (20) with their own numbers, and how large it is.
use mathlib.Core.Bool.{Bool, false, not, ◌||◌}
use mathlib.Core.Path.{◌≡◌, sym, subst}
use Prim.Native.Nat.{◌+◌, ◌*◌, ◌-◌, ◌≤◌}
use native.Mathlib.Nat.{mul-le-mul}
use native.Mathlib.Omega.{arith}
use lib.Dec.{T}
use mir.Facts.{or_no}
use Rattle.terms.specs.Answers.{outside}
use Rattle.terms.specs.Limits.{least_initial_time, greatest_initial_time, least_acceleration, greatest_acceleration, least_passing_speed, greatest_passing_speed, least_speed_difference, greatest_speed_difference, least_left_lane_time, greatest_left_lane_time, least_clearance, greatest_clearance}
use Rattle.terms.proofs.Laws.{inside}
use Rattle.distance.specs.declared.Manoeuvre.{Manoeuvre}
use Rattle.distance.specs.Distance.{up_to_five}
use Rattle.distance.specs.PassingDistance.{passing_metre, initial_parts, left_lane_parts, oncoming_parts, passing_parts, manoeuvre_outside}
use Rattle.distance.proofs.Laws.{up_to_five_below}

-- ---- the equations
module _ (w : Manoeuvre) where
  -- d1 is 278 / 1,000 × t1 / 10 × ((v − m) / 10 + a / 100 × t1 / 10 / 2) metres, the bracket over 10 × (100 × 10 × 2)
  pub initial_is : initial_parts w * (1000 * 10 * (10 * (100 * 10 * 2)))
      ≡ 278 * w.t1 * ((w.v - w.m) * (100 * 10 * 2) + 10 * (w.a * w.t1)) * passing_metre
  unfolding initial_parts
  initial_is = omega arith

  -- d2 is 278 / 1,000 × v / 10 × t2 / 10 metres
  pub left_lane_is : left_lane_parts w * (1000 * 10 * 10) ≡ 278 * w.v * w.t2 * passing_metre
  unfolding left_lane_parts
  left_lane_is = omega arith

  -- d4 is two thirds of d2
  pub oncoming_is : 3 * oncoming_parts w ≡ 2 * left_lane_parts w
  unfolding oncoming_parts left_lane_parts
  oncoming_is = omega arith

-- ---- in the ranges
pub record Within (w : Manoeuvre) : Type 0 where
  pub initial : (least_initial_time ≤ w.t1) × (w.t1 ≤ greatest_initial_time)
  pub acceleration : (least_acceleration ≤ w.a) × (w.a ≤ greatest_acceleration)
  pub speed : (least_passing_speed ≤ w.v) × (w.v ≤ greatest_passing_speed)
  pub difference : (least_speed_difference ≤ w.m) × (w.m ≤ greatest_speed_difference)
  pub left_lane : (least_left_lane_time ≤ w.t2) × (w.t2 ≤ greatest_left_lane_time)
  pub clearance : (least_clearance ≤ w.d3) × (w.d3 ≤ greatest_clearance)

module _ (w : Manoeuvre) (ranged : manoeuvre_outside w ≡ false) where
  pub within : Within w
  unfolding manoeuvre_outside
  within =
      let t1 = outside least_initial_time greatest_initial_time w.t1 in
      let a = outside least_acceleration greatest_acceleration w.a in
      let v = outside least_passing_speed greatest_passing_speed w.v in
      let m = outside least_speed_difference greatest_speed_difference w.m in
      let t2 = outside least_left_lane_time greatest_left_lane_time w.t2 in
      let d3 = outside least_clearance greatest_clearance w.d3 in
      let six = or_no (t1 || a || v || m || t2) d3 (subst (λ (t : Bool). T (not t)) (sym ranged) tt) in
      let five = or_no (t1 || a || v || m) t2 six.0 in
      let four = or_no (t1 || a || v) m five.0 in
      let three = or_no (t1 || a) v four.0 in
      let two = or_no t1 a three.0 in
      record {
        initial = inside least_initial_time greatest_initial_time w.t1 two.0;
        acceleration = inside least_acceleration greatest_acceleration w.a two.1;
        speed = inside least_passing_speed greatest_passing_speed w.v three.1;
        difference = inside least_speed_difference greatest_speed_difference w.m four.1;
        left_lane = inside least_left_lane_time greatest_left_lane_time w.t2 five.1;
        clearance = inside least_clearance greatest_clearance w.d3 six.1;
      }

  -- v − m, the speed of the car that is passed, is a difference, and at least 10 km/h
  pub passed_has_speed : (100 ≤ w.v - w.m) × (w.v - w.m + w.m ≡ w.v)
  passed_has_speed = let r = within in (omega (arith, r.speed, r.difference), omega (arith, r.speed, r.difference))

  -- the speed gained is small
  pub gained_small : w.a * w.t1 ≤ 241 * 45
  gained_small = mul-le-mul within.acceleration.1 within.initial.1

  -- the sum is at most 928 m
  pub passing_parts_small : passing_parts w ≤ 928 * passing_metre
  unfolding passing_parts initial_parts left_lane_parts oncoming_parts
  passing_parts_small =
      let r = within in
      let faster : w.v - w.m ≤ 1200 = omega (arith, r.speed, r.difference) in
      let first = mul-le-mul r.initial.1 faster in
      let gained = mul-le-mul r.initial.1 gained_small in
      let left = mul-le-mul r.speed.1 r.left_lane.1 in
      omega (arith, first, gained, left, r.clearance)

  -- so that a passing distance is at most 930 m
  pub passing_at_most : up_to_five (passing_parts w) passing_metre ≤ 930
  unfolding up_to_five
  passing_at_most = omega (arith, passing_parts_small, up_to_five_below (passing_parts w) passing_metre (omega arith))

-- both bounds, as `passing_distance` uses them
pub ruleset passing_bounds = (passing_parts_small, passing_at_most)
