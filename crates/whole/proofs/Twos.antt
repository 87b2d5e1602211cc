-- Two's complement, once over the width: `of_z w z` are the bits of z and `to_z w n` is the number whose bits are n. They are inverse to each
-- other (`plain` of proofs/Machine.antt is the other way round).
use mathlib.Core.Path.{◌≡◌}
use Prim.Native.Nat.{ℕ, ◌<◌, ◌^◌}
use lib.IntN.{ℤ}
use mir.Syntax.{Width}
use mir.Val.{SFits, bits, to_z, of_z}
use mir.Facts.{of_z-to_z, Fits-of_z, Fits-of_lt}

pub bits_below : {w : Width} {z : ℤ} → SFits w z → of_z w z < 2 ^ bits w
bits_below f = (Fits-of_z f).fits

pub bits_back : (w : Width) {n : ℕ} → n < 2 ^ bits w → of_z w (to_z w n) ≡ n
bits_back w h = of_z-to_z (Fits-of_lt {w = w} h)
