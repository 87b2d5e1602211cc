-- docs/RULES.md, "Passing": the passing distance in whole metres.
--
-- Source document 002, equations (19) and (20), with times in seconds, speeds in km/h and the acceleration in km/h per second:
--   d1 = 0.278 t1 (v − m + a t1 / 2) in the initial manoeuvre, d2 = 0.278 v t2 in the left lane, d3 of clearance, which is given, and
--   d4 of the oncoming car, two thirds of d2.
-- Here t1, t2, v and m are in tenths and a in hundredths. Over the one denominator 30,000,000 all four are whole numbers:
--   0.278 (t1 / 10) ((v − m) / 10 + (a / 100) (t1 / 10) / 2) = 417 t1 (200 (v − m) + a t1) / 30,000,000, since 0.0278 × 30,000,000 / 2,000 = 417;
--   0.278 (v / 10) (t2 / 10) = 83,400 v t2 / 30,000,000, since 0.00278 × 30,000,000 = 83,400, and two thirds of 83,400 are 55,600.
use Rattle.std.specs.Prelude.{ℕ, ◌+◌, ◌*◌, ◌-◌, Bool, ◌||◌, Ok}
use Rattle.terms.specs.Answers.{outside, refuse, Answer}
use Rattle.terms.specs.Limits.{least_initial_time, greatest_initial_time, least_acceleration, greatest_acceleration, least_passing_speed, greatest_passing_speed, least_speed_difference, greatest_speed_difference, least_left_lane_time, greatest_left_lane_time, least_clearance, greatest_clearance}
use Rattle.terms.specs.declared.Refusal.TheVariants.{ManoeuvreOutside}
use Rattle.distance.specs.declared.Manoeuvre.{Manoeuvre}
use Rattle.distance.specs.Distance.{up_to_five}

-- the parts of a metre that a passing distance is counted in before rounding
abbrev pub passing_metre : ℕ
passing_metre = 30000000

-- d1, the initial manoeuvre, in those parts; v − m, the speed of the car that is passed, is above 0 in the ranges of v and m
unfoldable pub initial_parts : Manoeuvre → ℕ
initial_parts w = 417 * w.t1 * (200 * (w.v - w.m) + w.a * w.t1)

-- d2, in the left lane
unfoldable pub left_lane_parts : Manoeuvre → ℕ
left_lane_parts w = 83400 * w.v * w.t2

-- d4, the oncoming car: two thirds of d2
unfoldable pub oncoming_parts : Manoeuvre → ℕ
oncoming_parts w = 55600 * w.v * w.t2

-- d1 + d2 + d3 + d4
unfoldable pub passing_parts : Manoeuvre → ℕ
passing_parts w = initial_parts w + left_lane_parts w + passing_metre * w.d3 + oncoming_parts w

-- any of the six values is outside its range
unfoldable pub manoeuvre_outside : Manoeuvre → Bool
manoeuvre_outside w =
    outside least_initial_time greatest_initial_time w.t1
    || outside least_acceleration greatest_acceleration w.a
    || outside least_passing_speed greatest_passing_speed w.v
    || outside least_speed_difference greatest_speed_difference w.m
    || outside least_left_lane_time greatest_left_lane_time w.t2
    || outside least_clearance greatest_clearance w.d3

-- the passing distance of a manoeuvre: refused 24; else the sum, rounded up to a multiple of 5 m
unfoldable pub passing_distance : Manoeuvre → Answer
passing_distance w = refuse (manoeuvre_outside w) ManoeuvreOutside (Ok (up_to_five (passing_parts w) passing_metre))
