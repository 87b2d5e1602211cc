-- docs/RULES.md, "Road file": where each number stands, in a file of either version. All numbers are little-endian, signed ones
-- two's complement.
use Rattle.std.specs.Prelude.{ℕ, zero, suc, ◌+◌, ◌*◌, cond, List, [], ◌∷◌, eqb, pos, get_or, replicate}
use Rattle.std.specs.Int.{w16, w32}
use Rattle.std.proofs.Common.{to_z}
use Rattle.whole.specs.Fill.{filled}
use Rattle.terms.specs.Limits.{second_version, greatest_curve_count}
use Rattle.road.specs.declared.Curve.{Curve}
use Rattle.road.specs.declared.Road.{Road}
use Rattle.road.specs.Road.{no_curve}

-- ---- numbers in a file
-- the byte at place k, and 0 behind the end
abbrev pub byte_at : List ℕ → ℕ → ℕ
byte_at s k = get_or s k 0

-- the number of w bytes from place k on, lowest first; the signed number with these bits is `to_z` of it
unfoldable pub number_at : List ℕ → ℕ → ℕ → ℕ
number_at s k zero = 0
number_at s k (suc w) = byte_at s k + 256 * number_at s (k + 1) w

-- ---- the layout of a version
-- the bytes of a station, which are those of N and of each PVI: 4 in version 2, else 2
unfoldable pub station_bytes : ℕ → ℕ
station_bytes version = cond (eqb version second_version) 4 2

-- the bytes of a record: a station, the curve's length and its grade out
abbrev pub record_length : ℕ → ℕ
record_length version = station_bytes version + 4

-- the length of a file with n curves: of the header a station and 14 bytes (3 for the letters, 2 for the version, 1 each for speed and
-- purpose, 4 for the start height, 2 for the first grade, 1 for the number of curves), and the records
abbrev pub file_length : ℕ → ℕ → ℕ
file_length version n = station_bytes version + 14 + record_length version * n

-- ---- the road in a file
-- the letters VCP, with which a file begins
abbrev pub letters : List ℕ
letters = 86 ∷ 67 ∷ 80 ∷ []

-- the version, at byte 3
abbrev pub version_in : List ℕ → ℕ
version_in s = number_at s 3 2

-- the number of curves, the last byte of the header
abbrev pub curve_count : List ℕ → ℕ
curve_count s = byte_at s (station_bytes (version_in s) + 13)

-- record k of a file of this version, which begins where a file with k curves ends: PVI, length, grade out
unfoldable pub curve_at : ℕ → List ℕ → ℕ → Curve
curve_at version s k =
    let w = station_bytes version in
    let at = file_length version k in
    record { pvi = number_at s at w; length = number_at s (at + w) 2; grade_out = to_z w16 (number_at s (at + w + 2) 2) }

-- version at byte 3, speed at 5, purpose at 6, N at 7, and behind its w bytes start height, first grade and the number of curves n, then n
-- records; the other curve places are zero
unfoldable pub road_in : List ℕ → Road
road_in s = let w = station_bytes (version_in s) in record {
  version = version_in s;
  speed = byte_at s 5;
  purpose = byte_at s 6;
  length = number_at s 7 w;
  start_height = to_z w32 (number_at s (w + 7) 4);
  first_grade = to_z w16 (number_at s (w + 11) 2);
  count = curve_count s;
  curves = filled (curve_at (version_in s) s) 0 (curve_count s) (replicate greatest_curve_count no_curve);
}

-- the road of a refused file: all numbers zero
unfoldable pub no_road : Road
no_road = record {
  version = 0;
  speed = 0;
  purpose = 0;
  length = 0;
  start_height = pos 0;
  first_grade = pos 0;
  count = 0;
  curves = replicate greatest_curve_count no_curve;
}
