-- The round trips of a road file (docs/RULES.md, "Road file"): a file that is read and written again has the same bytes, and a road
-- that is written and read again is the same road, in either version. They speak of the definitions that the contracts of reading and writing cite.
use Rattle.std.specs.Prelude.{ℕ, ◌≤◌, ◌<◌, List, ◌≡◌, length, take, get_or, replicate, Ok}
use Rattle.whole.specs.Fill.{filled}
use Rattle.terms.specs.Limits.{greatest_curve_count}
use Rattle.terms.specs.Answers.{accepted}
use Rattle.road.specs.declared.Road.{Road}
use Rattle.road.specs.Road.{no_curve, curves_of, road_verdict}
use Rattle.file.specs.File.{byte_at, file_length}
use Rattle.file.specs.Reading.{read_road}
use Rattle.writing.specs.Writing.{write_answer, write_list}

-- ---- read, then written
-- every element is a byte
abbrev pub Bytes : List ℕ → Type 0
Bytes s = (k : ℕ) → byte_at s k < 256

-- what is said of a file and a buffer
pub record SameFile (s buffer : List ℕ) : Type 0 where
  -- writing the road that was read answers the file's length
  pub answer : write_answer (read_road s).road buffer ≡ Ok (length s)
  -- and leaves the file at the front of the buffer
  pub front : take (length s) (write_list (read_road s).road buffer) ≡ s

-- it holds of
abbrev pub ReadThenWritten : Type 0
ReadThenWritten =
    (s buffer : List ℕ)
    -- every file, its elements being bytes,
    → Bytes s
    -- that reading accepts,
    → (read_road s).verdict ≡ accepted
    -- and every buffer with room for it
    → length s ≤ length buffer
    → SameFile s buffer

-- ---- written, then read
-- two roads are the same: all their numbers and their first n curves are
pub record SameRoad (a b : Road) : Type 0 where
  pub version : a.version ≡ b.version
  pub speed : a.speed ≡ b.speed
  pub purpose : a.purpose ≡ b.purpose
  pub length : a.length ≡ b.length
  pub start : a.start_height ≡ b.start_height
  pub grade : a.first_grade ≡ b.first_grade
  pub count : a.count ≡ b.count
  pub curves : curves_of a ≡ curves_of b

-- the same road with zero in its unused curve places, as reading makes it
unfoldable pub cleared : Road → Road
cleared r = record {
  version = r.version;
  speed = r.speed;
  purpose = r.purpose;
  length = r.length;
  start_height = r.start_height;
  first_grade = r.first_grade;
  count = r.count;
  curves = filled (λ k. get_or (curves_of r) k no_curve) 0 r.count (replicate greatest_curve_count no_curve);
}

-- what is said of a road and a buffer
pub record ReadBack (r : Road) (buffer : List ℕ) : Type 0 where
  -- writing answers the length of a file of its version with its number of curves
  pub answer : write_answer r buffer ≡ Ok (file_length r.version r.count)
  -- reading so many bytes of the buffer accepts them, and gives the road with zero in its unused curve places,
  pub read : read_road (take (file_length r.version r.count) (write_list r buffer)) ≡ record { verdict = accepted; road = cleared r }
  -- which is the same road
  pub same : SameRoad (cleared r) r

-- it holds of
abbrev pub WrittenThenRead : Type 0
WrittenThenRead =
    (r : Road) (buffer : List ℕ)
    -- every road whose curves are all there
    → r.count ≤ length r.curves
    -- and that is accepted,
    → road_verdict r ≡ accepted
    -- and every buffer with room for its file
    → file_length r.version r.count ≤ length buffer
    → ReadBack r buffer
