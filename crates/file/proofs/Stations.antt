-- Laws of the layout: a station has 2 to 4 bytes, the header of version 1 is the shorter one, and a file grows with its records, up to the
-- longest.
use Prim.Native.Nat.{ℕ, ◌+◌, ◌*◌, ◌≤◌}
use mathlib.Core.Bool.{Bool, true, false, cond}
use mathlib.Core.Path.{◌≡◌, refl}
use native.Mathlib.Nat.{mul-le-mul, le_refl}
use native.Mathlib.Omega.{arith}
use lib.Dec.{eqb}
use Rattle.terms.specs.Limits.{first_version, second_version, greatest_curve_count}
use Rattle.file.specs.File.{station_bytes, record_length, file_length}

either : (b : Bool) → (2 ≤ cond b 4 2) × (cond b 4 2 ≤ 4)
either true = (omega arith, omega arith)
either false = (omega arith, omega arith)

pub station_size : (version : ℕ) → (2 ≤ station_bytes version) × (station_bytes version ≤ 4)
unfolding station_bytes
station_size version = either (eqb version second_version)

pub first_station : station_bytes first_version ≡ 2
unfolding station_bytes
first_station = refl

pub second_station : station_bytes second_version ≡ 4
unfolding station_bytes
second_station = refl

-- n records are no longer than m
pub records_within : (version n m : ℕ) → n ≤ m → record_length version * n ≤ record_length version * m
records_within version n m l = mul-le-mul (le_refl (record_length version)) l

-- the longest file of any version is that of version 2 with 32 curves
pub longest_file : (version n : ℕ) → n ≤ greatest_curve_count → file_length version n ≤ file_length second_version greatest_curve_count
longest_file version n few =
    let station = (station_size version).1 in
    let bytes : record_length version ≤ 8 = omega (arith, station) in
    omega (arith, station, second_station, mul-le-mul bytes few)

-- the records of as many curves as one byte counts
pub record_bytes : (station count version : ℕ) → station ≡ station_bytes version → count ≤ 255 → (station + 4) * count ≤ 2040
record_bytes station count version e many =
    let bytes : station + 4 ≤ 8 = omega (arith, (station_size version).1) in
    omega (arith, mul-le-mul bytes many)
