-- docs/RULES.md, "Road file": the bytes of a road. All numbers are little-endian, signed ones two's complement.
use Rattle.std.specs.Prelude.{ℕ, zero, suc, ◌/◌, ◌%◌, List, [], ◌∷◌, ◌++◌, get_or}
use Rattle.std.specs.Int.{w16, w32}
use Rattle.std.proofs.Common.{of_z}
use Rattle.road.specs.declared.Curve.{Curve}
use Rattle.road.specs.declared.Road.{Road}
use Rattle.road.specs.Road.{no_curve}
use Rattle.file.specs.File.{letters, station_bytes}

-- the w bytes of a number, lowest first
abbrev pub bytes_of : ℕ → ℕ → List ℕ
bytes_of zero n = []
bytes_of (suc w) n = n % 256 ∷ bytes_of w (n / 256)

-- the front of the header: the letters, the version, speed, purpose and N
abbrev pub front_bytes : Road → List ℕ
front_bytes r =
    letters ++ bytes_of 2 r.version ++ bytes_of 1 r.speed ++ bytes_of 1 r.purpose ++ bytes_of (station_bytes r.version) r.length

-- the header: behind those the start height, the first grade and the number of curves
unfoldable pub header_bytes : Road → List ℕ
header_bytes r =
    front_bytes r ++ bytes_of 4 (of_z w32 r.start_height) ++ bytes_of 2 (of_z w16 r.first_grade) ++ bytes_of 1 r.count

-- a record in a file of this version
unfoldable pub curve_bytes : ℕ → Curve → List ℕ
curve_bytes version c =
    bytes_of (station_bytes version) c.pvi ++ bytes_of 2 c.length ++ bytes_of 2 (of_z w16 c.grade_out)

-- the header and the first n records
unfoldable pub file_up_to : Road → ℕ → List ℕ
file_up_to r zero = header_bytes r
file_up_to r (suc n) = file_up_to r n ++ curve_bytes r.version (get_or r.curves n no_curve)

-- the whole file
abbrev pub file_bytes : Road → List ℕ
file_bytes r = file_up_to r r.count
