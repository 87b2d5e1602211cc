-- How great the number of some bytes is.
use Prim.Native.Nat.{ℕ, zero, suc, ◌+◌, ◌^◌, ◌<◌}
use mathlib.Core.List.{List}
use native.Mathlib.Omega.{arith}
use Rattle.file.specs.File.{byte_at, number_at}

pub number_below : (s : List ℕ) → ((k : ℕ) → byte_at s k < 256) → (k w : ℕ) → number_at s k w < 256 ^ w
unfolding number_at
number_below s bytes k zero = omega arith
number_below s bytes k (suc w) = omega (arith, bytes k, number_below s bytes (k + 1) w)
