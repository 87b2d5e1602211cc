-- What converting a road file keeps (docs/RULES.md, "Converting a file"). The statements speak of the definitions that the contracts of
-- converting, reading and writing cite.
use Rattle.std.specs.Prelude.{ℕ, ◌≤◌, List, ◌≡◌, ltb, length, take, Ok}
use Rattle.terms.specs.Answers.{refuse, room_for, accepted}
use Rattle.terms.specs.Limits.{first_version, second_version}
use Rattle.terms.specs.declared.Refusal.TheVariants.{RoadLengthOutside, LongRoad}
use Rattle.road.specs.declared.Road.{Road}
use Rattle.road.specs.Road.{longest_road, road_verdict}
use Rattle.file.specs.File.{file_length, version_in, curve_count, road_in}
use Rattle.file.specs.Reading.{read_verdict, read_road}
use Rattle.round_trip.specs.RoundTrip.{Bytes}
use Rattle.conversion.specs.Conversion.{other_version, in_version, converted, too_long_for, convert_verdict, convert_answer, convert_list}

-- ---- a road in either version
abbrev pub AcceptedInEither : Type 0
AcceptedInEither =
    (version : ℕ) (r : Road)
    -- in each version
    → first_version ≤ version
    → version ≤ second_version
    -- every road that is accepted
    → road_verdict r ≡ accepted
    -- is accepted too, unless it is longer than a road of that version may be, which is refused 8
    → road_verdict (in_version version r) ≡ refuse (ltb (longest_road version) r.length) RoadLengthOutside accepted

-- ---- what comes after reading
-- how many bytes the converted file has: those of a file of the other version with as many curves
abbrev pub converted_length : List ℕ → ℕ
converted_length s = file_length (other_version (version_in s)) (curve_count s)

abbrev pub AfterReading : Type 0
AfterReading =
    (s out : List ℕ)
    -- of every file that reading accepts
    → read_verdict s ≡ accepted
    -- converting is refused 27 or 14 and by no other number, or answers the length of the converted file
    → convert_answer s out ≡ refuse (too_long_for (other_version (version_in s)) (road_in s)) LongRoad (room_for (converted_length s) out)

-- ---- converted, then read
-- the converted file, which stands at the front of the buffer
abbrev pub converted_file : List ℕ → List ℕ → List ℕ
converted_file s out = take (converted_length s) (convert_list s out)

-- what is said of a file and a buffer
pub record SameRoadThere (s out : List ℕ) : Type 0 where
  -- converting answers the length of the converted file,
  pub answer : convert_answer s out ≡ Ok (converted_length s)
  -- and reading accepts that file and gives the same road as of the first one, apart from its version
  pub read : read_road (converted_file s out) ≡ record { verdict = accepted; road = converted (read_road s).road }

-- it holds of
abbrev pub ConvertedThenRead : Type 0
ConvertedThenRead =
    (s out : List ℕ)
    -- every file that can be converted,
    → convert_verdict s ≡ accepted
    -- and every buffer with room for the converted one
    → converted_length s ≤ length out
    → SameRoadThere s out

-- ---- there and back
-- what is said of a file and two buffers
pub record SameBytes (s out back : List ℕ) : Type 0 where
  -- converting the converted file answers the first file's length
  pub answer : convert_answer (converted_file s out) back ≡ Ok (length s)
  -- and leaves the first file at the front of the second buffer
  pub front : take (length s) (convert_list (converted_file s out) back) ≡ s

-- it holds of
abbrev pub ThereAndBack : Type 0
ThereAndBack =
    (s out back : List ℕ)
    -- every file, its elements being bytes,
    → Bytes s
    -- that can be converted,
    → convert_verdict s ≡ accepted
    -- and buffers with room for the converted one
    → converted_length s ≤ length out
    -- and for the first one
    → length s ≤ length back
    → SameBytes s out back
