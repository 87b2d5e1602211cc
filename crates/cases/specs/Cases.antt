-- The starred cases, which are worked examples of the rules, by the headings of docs/RULES.md; the acceptance of the two
-- roads whose heights are given and the height 0 at 100 stand beside them.
use Rattle.std.specs.Prelude.{◌≡◌, Bool, List, [], ◌∷◌, ◌++◌, ℕ, ◌*◌, ◌-◌, ◌/◌, ℤ, pos, neg_ℤ, length, take, get_or, replicate, Ok, Err}
use Rattle.terms.specs.Limits.{first_version, second_version, stopping_purpose, greatest_short_road, greatest_long_road, greatest_curve_count, eye_height, object_height}
use Rattle.terms.specs.declared.Refusal.TheVariants.{ShortFile, WrongVersion, WrongTotal, SpeedOutside, RoadLengthOutside, StartOutside, CurvesOverlap, NoRoom, SharpBreak, NoCurve, LongRoad}
use Rattle.terms.specs.Answers.{Answer, accepted}
use Rattle.directions.specs.Directions.{forward, backward}
use Rattle.distance.specs.declared.Manoeuvre.{Manoeuvre}
use Rattle.distance.specs.Distance.{purpose_row, metre_parts, level_parts, required_distance}
use Rattle.distance.specs.PassingDistance.{passing_metre, passing_parts, passing_distance}
use Rattle.curve_lengths.specs.Lengths.{crest_adequate, sag_adequate, least_length, crest_length, sag_length}
use Rattle.road.specs.declared.Curve.{Curve}
use Rattle.road.specs.declared.Road.{Road}
use Rattle.road.specs.Road.{no_curve, road_verdict, short_road_verdict}
use Rattle.file.specs.File.{file_length, letters, road_in}
use Rattle.file.specs.Reading.{read_verdict, short_read_verdict}
use Rattle.heights.specs.Profile.{stored_height}
use Rattle.heights.specs.Heights.{own_heights}
use Rattle.sight.specs.Operations.{sight_answer}
use Rattle.sight.specs.Comparisons.{comparisons_answer}
use Rattle.road_distances.specs.RoadDistances.{road_distances}
use Rattle.marks.specs.Marks.{marks_list}
use Rattle.conversion.specs.Conversion.{convert_answer, convert_list}
use Rattle.change.specs.Change.{change_verdict}
use Rattle.preview.specs.Preview.{preview_answer, preview_first, preview_second}
use Rattle.mirror.specs.Mirror.{mirror, mirror_verdict}
use Rattle.passing.specs.Passing.{passing_list}

-- a curve by its PVI, its length and its grade out
unfoldable pub curve : ℕ → ℕ → ℤ → Curve
curve p l g = record { pvi = p; length = l; grade_out = g }

-- decision A, of this version, with this speed, this N, this start height, this first grade and these curves
unfoldable pub road_from : ℕ → ℕ → ℕ → ℤ → ℤ → List Curve → Road
road_from version v n z g cs = record {
  version = version;
  speed = v;
  purpose = 1;
  length = n;
  start_height = z;
  first_grade = g;
  count = length cs;
  curves = cs ++ replicate (greatest_curve_count - length cs) no_curve;
}

-- start 0
unfoldable pub road_of_version : ℕ → ℕ → ℕ → ℤ → List Curve → Road
road_of_version version v n g cs = road_from version v n (pos 0) g cs

-- of version 1
unfoldable pub road_for : ℕ → ℕ → ℤ → List Curve → Road
road_for v n g cs = road_of_version first_version v n g cs

-- at 80 km/h, N 100
unfoldable pub road_of : ℤ → List Curve → Road
road_of g cs = road_for 80 100 g cs

-- first grade 300, one curve with PVI 50, grade −300 and this length
unfoldable pub crest_road : ℕ → Road
crest_road l = road_of (pos 300) (curve 50 l (neg_ℤ (pos 300)) ∷ [])

-- what Heights leaves at station x of that road; −1 behind its last station
unfoldable pub height_at : ℕ → ℕ → ℤ
height_at l x = get_or (own_heights (crest_road l)) x (neg_ℤ (pos 1))

-- first grade 300, and two breaks at station 50 with these grades out
unfoldable pub breaks_road : ℕ → ℕ → Road
breaks_road g h = road_of (pos 300) (curve 50 0 (pos g) ∷ curve 50 0 (pos h) ∷ [])

-- first grade 300, a crest and a sag of 20 m each, with PVI 30 and 60
unfoldable pub crest_and_sag : Road
crest_and_sag = road_of (pos 300) (curve 30 20 (neg_ℤ (pos 300)) ∷ curve 60 20 (pos 300) ∷ [])

-- first grade 300, a crest of 20 m with PVI 30 and grade −200, and a break at station 60 to −250
unfoldable pub crest_and_break : Road
crest_and_break = road_of (pos 300) (curve 30 20 (neg_ℤ (pos 200)) ∷ curve 60 0 (neg_ℤ (pos 250)) ∷ [])

-- at 20 km/h, N 40, first grade 900, a crest of 2 m with PVI 20 and grade −900
unfoldable pub short_crest : Road
short_crest = road_for 20 40 (pos 900) (curve 20 2 (neg_ℤ (pos 900)) ∷ [])

-- a level road of this version and length at this speed
unfoldable pub level_road : ℕ → ℕ → ℕ → Road
level_road version v n = road_of_version version v n (pos 0) []

-- at 80 km/h, with a start height that is out of its range
unfoldable pub high_road : ℕ → ℕ → Road
high_road version n = road_from version 80 n (pos 90000001) (pos 0) []

-- a file of version 2, N 100,000, first grade 300, one curve with PVI 70,000, length 20 and grade −300
unfoldable pub valley_file : List ℕ
valley_file =
    letters ++ (2 ∷ 0 ∷ 80 ∷ 1 ∷ 160 ∷ 134 ∷ 1 ∷ 0 ∷ 0 ∷ 0 ∷ 0 ∷ 0 ∷ 44 ∷ 1 ∷ 1 ∷ []) ++ (112 ∷ 17 ∷ 1 ∷ 0 ∷ 20 ∷ 0 ∷ 212 ∷ 254 ∷ [])

-- the files of version 1 and of version 2 of a road at 90 km/h, decision B, with N 100, start height −1,000, first grade 300 and one curve
-- with PVI 50, length 20 and grade −300
unfoldable pub crest_file : List ℕ
crest_file =
    letters ++ (1 ∷ 0 ∷ 90 ∷ 2 ∷ 100 ∷ 0 ∷ 24 ∷ 252 ∷ 255 ∷ 255 ∷ 44 ∷ 1 ∷ 1 ∷ []) ++ (50 ∷ 0 ∷ 20 ∷ 0 ∷ 212 ∷ 254 ∷ [])

unfoldable pub second_crest_file : List ℕ
second_crest_file =
    letters ++ (2 ∷ 0 ∷ 90 ∷ 2 ∷ 100 ∷ 0 ∷ 0 ∷ 0 ∷ 24 ∷ 252 ∷ 255 ∷ 255 ∷ 44 ∷ 1 ∷ 1 ∷ []) ++ (50 ∷ 0 ∷ 0 ∷ 0 ∷ 20 ∷ 0 ∷ 212 ∷ 254 ∷ [])

-- the file of version 2 of a level road at this speed, with N 7,936 and so many metres more
unfoldable pub level_file : ℕ → ℕ → List ℕ
level_file v more = letters ++ (2 ∷ 0 ∷ v ∷ 1 ∷ more ∷ 31 ∷ []) ++ replicate 9 0

-- the first 16 bytes of a file of another version
unfoldable pub other_file : ℕ → List ℕ
other_file version = letters ++ (version ∷ []) ++ replicate 12 0

-- of version 2, N 8,001, first grade 300, a crest of 20 m with PVI 50 and grade −300
unfoldable pub long_crest : Road
long_crest = road_of_version second_version 80 8001 (pos 300) (curve 50 20 (neg_ℤ (pos 300)) ∷ [])

-- the least even adequate length of a crest with this drop and sight distance, whatever the speed is: e = 10,800 and o = 6,000
unfoldable pub least_adequate : ℕ → ℕ → Answer
least_adequate a s = least_length (crest_adequate a s eye_height object_height)

-- a manoeuvre by t1, a, v, m, t2 and d3
unfoldable pub manoeuvre : ℕ → ℕ → ℕ → ℕ → ℕ → ℕ → Manoeuvre
manoeuvre t1 a v m t2 d3 = record { t1 = t1; a = a; v = v; m = m; t2 = t2; d3 = d3 }

-- what Marks leaves of 22 bytes of 255 for 22 level stations at 20 km/h, decision A, with this grade in this direction
unfoldable pub marks_over : ℤ → Bool → List ℕ
marks_over g back = marks_list 20 1 g (replicate 22 (pos 0)) back (replicate 22 255)

-- what Passing marks leaves of three bytes of 255 for heights 0, h, 0 and this passing distance
unfoldable pub passing_over : ℤ → ℕ → List ℕ
passing_over h R = passing_list (pos 0 ∷ h ∷ pos 0 ∷ []) R (replicate 3 255)

pub record StarredCases : Type 0 where
  -- Distances a driver needs: the 129.01 m before rounding in hundredths of a metre, rounded down
  pub distances :
      (required_distance 80 stopping_purpose (pos 0) ≡ Ok 130)
      × (100 * level_parts 80 (purpose_row stopping_purpose) / metre_parts ≡ 12901)
      × (required_distance 100 stopping_purpose (pos 0) ≡ Ok 185)
      × (required_distance 20 1 (pos 0) ≡ Ok 25)
      × (required_distance 130 5 (pos 0) ≡ Ok 525)
      × (required_distance 90 stopping_purpose (neg_ℤ (pos 600)) ≡ Ok 175)
  -- Passing: the least of all, the greatest of all, and one between with its 317.45 m before rounding
  pub passing :
      (passing_distance (manoeuvre 36 225 300 200 93 30) ≡ Ok 175)
      × (passing_distance (manoeuvre 45 241 1300 100 113 90) ≡ Ok 930)
      × (passing_distance (manoeuvre 36 225 562 150 93 30) ≡ Ok 320)
      × (100 * passing_parts (manoeuvre 36 225 562 150 93 30) / passing_metre ≡ 31745)
  -- How long a crest must be: e = 10,800 and o = 6,000; the lengths that are answered, and the least adequate ones, which may lie below
  -- the minimum for the speed
  pub crests :
      (crest_length 80 600 130 eye_height object_height ≡ Ok 156)
      × (crest_length 80 300 130 eye_height object_height ≡ Ok 48)
      × (crest_length 80 253 130 eye_height object_height ≡ Ok 48)
      × (crest_length 80 254 130 eye_height object_height ≡ Ok 48)
      × (crest_length 50 253 130 eye_height object_height ≡ Ok 30)
      × (crest_length 51 253 130 eye_height object_height ≡ Ok 32)
  pub adequate_crests :
      (least_adequate 600 130 ≡ Ok 156)
      × (least_adequate 300 130 ≡ Ok 42)
      × (least_adequate 253 130 ≡ Ok 0)
      × (least_adequate 254 130 ≡ Ok 2)
  -- How long a sag must be: longer than the sight distance, shorter than it, and by the minimum for the speed; then two least adequate
  -- lengths, which lie below the minimum
  pub sags :
      (sag_length 80 600 130 ≡ Ok 178)
      × (sag_length 80 300 130 ≡ Ok 70)
      × (sag_length 80 221 130 ≡ Ok 48)
      × (least_length (sag_adequate 221 130) ≡ Ok 0)
      × (least_length (sag_adequate 222 130) ≡ Ok 2)
  -- The road and its heights
  pub heights :
      (road_verdict (crest_road 20) ≡ accepted)
      × (height_at 20 41 ≡ pos 12285)
      × (height_at 20 50 ≡ pos 13500)
      × (height_at 20 100 ≡ pos 0)
      × (road_verdict (crest_road 18) ≡ accepted)
      × (height_at 18 42 ≡ pos 12583)
  -- The road and its heights: two breaks by 50; the first by 51, down and back or up; the second by 51; and one by 600 in place of the crest
  pub breaks :
      (road_verdict (breaks_road 350 400) ≡ accepted)
      × (road_verdict (breaks_road 249 300) ≡ Err SharpBreak)
      × (road_verdict (breaks_road 351 351) ≡ Err SharpBreak)
      × (road_verdict (breaks_road 250 301) ≡ Err SharpBreak)
      × (road_verdict (crest_road 0) ≡ Err SharpBreak)
  -- The road and its heights: the longest roads of both versions, and a metre more; versions that are neither; and what the lister, the
  -- preview and the van's marking take of version 2, with 8 in its place behind 7 and before 9
  pub versions :
      (road_verdict (level_road 1 80 8000) ≡ accepted)
      × (road_verdict (level_road 1 80 8001) ≡ Err RoadLengthOutside)
      × (road_verdict (level_road 2 80 100000) ≡ accepted)
      × (road_verdict (level_road 2 80 100001) ≡ Err RoadLengthOutside)
      × (road_verdict (level_road 0 19 0) ≡ Err WrongVersion)
      × (road_verdict (level_road 3 80 100) ≡ Err WrongVersion)
      × (road_verdict (road_of_version 3 80 100 (pos 0) (replicate 33 no_curve)) ≡ Err WrongVersion)
      × (short_road_verdict (level_road 2 80 8000) ≡ accepted)
      × (short_road_verdict (level_road 2 80 8001) ≡ Err RoadLengthOutside)
      × (short_road_verdict (level_road 2 19 8001) ≡ Err SpeedOutside)
      × (short_road_verdict (high_road 2 8001) ≡ Err RoadLengthOutside)
      × (road_verdict (high_road 2 8001) ≡ Err StartOutside)
  -- Road file: one of version 2, its road's numbers and two of its heights; its header cut short by a byte and by three, and its record
  -- cut off; the lengths of files; a version that is neither, also where a byte of the header is missing
  pub files :
      (read_verdict valley_file ≡ accepted)
      × (short_read_verdict valley_file ≡ Err RoadLengthOutside)
      × (road_in valley_file ≡ road_of_version 2 80 100000 (pos 300) (curve 70000 20 (neg_ℤ (pos 300)) ∷ []))
      × (stored_height (road_in valley_file) 70000 ≡ pos 20998500)
      × (stored_height (road_in valley_file) 100000 ≡ pos 12000000)
      × (read_verdict (take 17 valley_file) ≡ Err ShortFile)
      × (read_verdict (take 15 valley_file) ≡ Err ShortFile)
      × (read_verdict (take 18 valley_file) ≡ Err WrongTotal)
      × (file_length first_version greatest_curve_count ≡ 208)
      × (file_length second_version greatest_curve_count ≡ 274)
      × (read_verdict (other_file 3) ≡ Err WrongVersion)
      × (read_verdict (take 15 (other_file 3)) ≡ Err ShortFile)
  -- Converting a file: from version 2 to 1, with bytes beyond, and back; a buffer with a byte too few, which stays; 8,000 m, and a metre
  -- more, where it stays too, also where the buffer is too short; and faults of reading such a file
  pub conversions :
      (convert_answer second_crest_file (replicate 24 255) ≡ Ok 22)
      × (convert_list second_crest_file (replicate 24 255) ≡ crest_file ++ (255 ∷ 255 ∷ []))
      × (convert_answer crest_file (replicate 26 255) ≡ Ok 26)
      × (convert_list crest_file (replicate 26 255) ≡ second_crest_file)
      × (convert_answer crest_file (replicate 25 255) ≡ Err NoRoom)
      × (convert_list crest_file (replicate 25 255) ≡ replicate 25 255)
      × (convert_answer (level_file 80 64) (replicate 16 255) ≡ Ok 16)
      × (convert_answer (level_file 80 65) (replicate 16 255) ≡ Err LongRoad)
      × (convert_list (level_file 80 65) (replicate 16 255) ≡ replicate 16 255)
      × (convert_answer (level_file 80 65) [] ≡ Err LongRoad)
      × (convert_answer (level_file 19 65) [] ≡ Err SpeedOutside)
      × (convert_answer (take 17 (level_file 80 65)) [] ≡ Err ShortFile)
  -- Trying another length: a longer curve; places beyond the one curve, also with an odd length; no length left; up to the sag, and into
  -- it; a road that is refused as it is, at a place beyond its curve, and where the length would mend it; and a place beyond the curve of a
  -- longer road, where none over 8,000 m is taken and where it is
  pub changes :
      (change_verdict greatest_long_road (crest_road 20) 0 40 ≡ accepted)
      × (change_verdict greatest_long_road (crest_road 20) 1 40 ≡ Err NoCurve)
      × (change_verdict greatest_long_road (crest_road 20) 31 41 ≡ Err NoCurve)
      × (change_verdict greatest_long_road (crest_road 20) 0 0 ≡ Err SharpBreak)
      × (change_verdict greatest_long_road crest_and_sag 0 40 ≡ accepted)
      × (change_verdict greatest_long_road crest_and_sag 0 42 ≡ Err CurvesOverlap)
      × (change_verdict greatest_long_road (crest_road 0) 1 20 ≡ Err SharpBreak)
      × (change_verdict greatest_long_road (crest_road 0) 0 20 ≡ Err SharpBreak)
      × (change_verdict greatest_short_road long_crest 1 40 ≡ Err RoadLengthOutside)
      × (change_verdict greatest_long_road long_crest 1 40 ≡ Err NoCurve)
  -- Trying another length: at how many of 41 stations the marks differ; a second and a first list of 40 places, and that the other list
  -- stays; and a place beyond the curve, where both lists are too short
  pub previews :
      (preview_answer short_crest 0 10 (replicate 41 255) (replicate 41 255) ≡ Ok 4)
      × (preview_answer short_crest 0 10 (replicate 41 255) (replicate 40 255) ≡ Err NoRoom)
      × (preview_first short_crest 0 10 (replicate 41 255) (replicate 40 255) ≡ replicate 41 255)
      × (preview_answer short_crest 0 10 (replicate 40 255) (replicate 41 255) ≡ Err NoRoom)
      × (preview_second short_crest 0 10 (replicate 40 255) (replicate 41 255) ≡ replicate 41 255)
      × (preview_answer short_crest 1 10 (replicate 40 255) (replicate 40 255) ≡ Err NoCurve)
  -- What can be seen: from station 0 with farthest 8
  pub sights :
      (sight_answer (pos 0 ∷ pos 20 ∷ pos 0 ∷ pos 100 ∷ []) forward 0 10 5 8 ≡ Ok 1)
      × (sight_answer (pos 0 ∷ pos 5 ∷ pos 0 ∷ []) forward 0 6 4 8 ≡ Ok 2)
      × (sight_answer (pos 0 ∷ pos 6 ∷ pos 0 ∷ []) forward 0 6 4 8 ≡ Ok 1)
  -- What can be seen: what the quick search compares there, up to the first hidden station, where all is seen over a hump and where its
  -- road is too, and on the level up to two farthest distances
  pub comparisons :
      (comparisons_answer (pos 0 ∷ pos 20 ∷ pos 0 ∷ pos 100 ∷ []) forward 0 10 5 8 ≡ Ok 3)
      × (comparisons_answer (pos 0 ∷ pos 5 ∷ pos 0 ∷ []) forward 0 6 4 8 ≡ Ok 3)
      × (comparisons_answer (pos 0 ∷ pos 3 ∷ pos 0 ∷ []) forward 0 6 4 8 ≡ Ok 2)
      × (comparisons_answer (replicate 4 (pos 0)) forward 0 6 4 8 ≡ Ok 3)
      × (comparisons_answer (replicate 4 (pos 0)) forward 0 6 4 2 ≡ Ok 2)
  -- The lane coming back: sight from stations 3, 1 and 0 towards falling stations; the stopping distance of a road at 90 km/h that climbs
  -- by 6 %, in either direction; and the marks of 22 level stations at 20 km/h, whose last two see as far as stopping takes back to
  -- station 0, with the grade 9 %, which falls towards falling stations, where none does, and a grade out of range
  pub back :
      (sight_answer (pos 0 ∷ pos 20 ∷ pos 0 ∷ pos 100 ∷ []) backward 3 10 5 8 ≡ Ok 3)
      × (sight_answer (pos 0 ∷ pos 20 ∷ pos 0 ∷ pos 100 ∷ []) backward 1 10 5 8 ≡ Ok 1)
      × (sight_answer (pos 0 ∷ pos 20 ∷ pos 0 ∷ pos 100 ∷ []) backward 0 10 5 8 ≡ Ok 0)
      × ((road_distances (road_for 90 100 (pos 600) []) forward).stopping ≡ 160)
      × ((road_distances (road_for 90 100 (pos 600) []) backward).stopping ≡ 175)
      × (marks_over (pos 0) backward ≡ replicate 20 24 ++ replicate 2 16)
      × (marks_over (pos 900) forward ≡ replicate 2 16 ++ replicate 20 24)
      × (marks_over (pos 900) backward ≡ replicate 22 24)
      × (marks_over (pos 1501) backward ≡ replicate 22 255)
  -- The lane coming back: the mirror of a road with a crest and a break, and that it is accepted; and a road that climbs from the highest
  -- start, whose mirror starts too high
  pub mirrors :
      (mirror crest_and_break ≡ road_from 1 80 100 (neg_ℤ (pos 7000)) (pos 250) (curve 40 0 (pos 200) ∷ curve 70 20 (neg_ℤ (pos 300)) ∷ []))
      × (mirror_verdict crest_and_break ≡ accepted)
      × (mirror_verdict (road_from 1 80 8000 (pos 90000000) (pos 1500) []) ≡ Err StartOutside)
  -- Passing: the line touches the road, or is cut; and the road ends too soon
  pub passing_marks :
      (passing_over (pos 10800) 2 ≡ 0 ∷ 64 ∷ 64 ∷ [])
      × (passing_over (pos 10801) 2 ≡ 32 ∷ 64 ∷ 64 ∷ [])
      × (passing_over (pos 10800) 3 ≡ 64 ∷ 64 ∷ 64 ∷ [])
