-- The ranges of docs/RULES.md, and the heights that marks are taken with.
use Rattle.std.specs.Prelude.{ℕ, ℤ, pos, neg_ℤ}

-- speeds in km/h
abbrev pub least_speed : ℕ
least_speed = 20

abbrev pub greatest_speed : ℕ
greatest_speed = 130

-- the purpose of stopping, and the last one of the table of reaction times
abbrev pub stopping_purpose : ℕ
stopping_purpose = 0

abbrev pub last_purpose : ℕ
last_purpose = 5

-- the versions of a road and of its file
abbrev pub first_version : ℕ
first_version = 1

abbrev pub second_version : ℕ
second_version = 2

-- the length of a road in metres: of version 1, and of any that the lister, the preview and the van's marking take; and of version 2
abbrev pub greatest_short_road : ℕ
greatest_short_road = 8000

abbrev pub greatest_long_road : ℕ
greatest_long_road = 100000

-- a road: its decision purposes begin at 1; its start height in h-units, its number of curves and the length of one in metres; and a
-- grade, the road's or one that is handed over, in hundredths of a percent up or down
abbrev pub first_decision : ℕ
first_decision = 1

abbrev pub lowest_start : ℤ
lowest_start = neg_ℤ (pos 10000000)

abbrev pub highest_start : ℤ
highest_start = pos 90000000

abbrev pub greatest_grade : ℕ
greatest_grade = 1500

abbrev pub greatest_curve_count : ℕ
greatest_curve_count = 32

abbrev pub greatest_curve : ℕ
greatest_curve = 2000

-- by how much the grades of a plain break may differ, in hundredths of a percent
abbrev pub greatest_break : ℕ
greatest_break = 50

-- a crest or a sag: its drop or rise in grade in hundredths of a percent, its sight distance and the length that is answered in metres
abbrev pub greatest_grade_change : ℕ
greatest_grade_change = 3000

abbrev pub greatest_sight_distance : ℕ
greatest_sight_distance = 800

abbrev pub greatest_answered_length : ℕ
greatest_answered_length = 2000

-- the height of an eye or an object in h-units
abbrev pub greatest_height : ℕ
greatest_height = 50000

-- a list of heights or marks
abbrev pub greatest_list : ℕ
greatest_list = 100001

-- the farthest distance that is looked at, in metres
abbrev pub greatest_farthest : ℕ
greatest_farthest = 8000

-- the last bit that zones are asked for
abbrev pub last_bit : ℕ
last_bit = 6

-- the heights of the eye, 1.08 m, and of the object, 0.60 m, in h-units, that a road is marked with
abbrev pub eye_height : ℕ
eye_height = 10800

abbrev pub object_height : ℕ
object_height = 6000

-- the height, 1.08 m, of what has to be seen of an oncoming car before one passes
abbrev pub passing_object_height : ℕ
passing_object_height = 10800

-- passing: the time t1 of the initial manoeuvre and t2 in the left lane in tenths of a second, the acceleration a in hundredths of km/h
-- per second, the speed v of the passing car and its difference m to the other's in tenths of km/h, the clearance d3 in metres
abbrev pub least_initial_time : ℕ
least_initial_time = 36

abbrev pub greatest_initial_time : ℕ
greatest_initial_time = 45

abbrev pub least_acceleration : ℕ
least_acceleration = 225

abbrev pub greatest_acceleration : ℕ
greatest_acceleration = 241

abbrev pub least_passing_speed : ℕ
least_passing_speed = 300

abbrev pub greatest_passing_speed : ℕ
greatest_passing_speed = 1300

abbrev pub least_speed_difference : ℕ
least_speed_difference = 100

abbrev pub greatest_speed_difference : ℕ
greatest_speed_difference = 200

abbrev pub least_left_lane_time : ℕ
least_left_lane_time = 93

abbrev pub greatest_left_lane_time : ℕ
greatest_left_lane_time = 113

abbrev pub least_clearance : ℕ
least_clearance = 30

abbrev pub greatest_clearance : ℕ
greatest_clearance = 90
