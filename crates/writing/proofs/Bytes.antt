-- How many bytes a number, a header, a record and a file have.
use mathlib.Core.Path.{◌≡◌, refl, ap}
use Prim.Native.Nat.{ℕ, zero, suc, ◌+◌, ◌/◌}
use native.Mathlib.Omega.{arith}
use lib.ListN.{length, get_or, length-append}
use Rattle.road.specs.declared.Curve.{Curve}
use Rattle.road.specs.declared.Road.{Road}
use Rattle.road.specs.Road.{no_curve}
use Rattle.file.specs.File.{station_bytes, record_length, file_length}
use Rattle.writing.specs.Bytes.{bytes_of, front_bytes, header_bytes, curve_bytes, file_up_to}

pub bytes_length : (w n : ℕ) → length (bytes_of w n) ≡ w
bytes_length zero n = refl
bytes_length (suc w) n = ap suc (bytes_length w (n / 256))

length-curve_bytes : (version : ℕ) (c : Curve) → length (curve_bytes version c) ≡ record_length version
unfolding curve_bytes
length-curve_bytes version c = simp length-append (omega (arith, bytes_length (station_bytes version) c.pvi))

pub front_length : (r : Road) → length (front_bytes r) ≡ station_bytes r.version + 7
front_length r = omega (arith, bytes_length (station_bytes r.version) r.length)

pub file_up_to-length : (r : Road) (n : ℕ) → length (file_up_to r n) ≡ file_length r.version n
unfolding file_up_to header_bytes
file_up_to-length r zero = simp length-append (omega (arith, bytes_length (station_bytes r.version) r.length))
file_up_to-length r (suc n) =
    simp length-append (omega (arith, file_up_to-length r n, length-curve_bytes r.version (get_or r.curves n no_curve)))
