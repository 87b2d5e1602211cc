-- What the code computes with: heights of 32 bits and the numbers of a look, each made a number of 64 bits.
use mathlib.Core.Path.{◌≡◌, ◌∙◌}
use mathlib.Core.Bool.{true}
use Prim.Native.Nat.{ℕ, ◌≤◌, ◌<◌, ◌^◌}
use native.Mathlib.Omega.{arith}
use lib.Dec.{T, leb, leb→le}
use lib.IntN.{ℤ, pos, nat_abs}
use mir.Syntax.{w32, w64}
use mir.Val.{SFits, to_z, of_z}
use Rattle.whole.proofs.Machine.{plain}
use Rattle.whole.proofs.Range.{Below, Reads, leaf_b, nat_b, as_b, read_r}

-- a height that was read from the list
abbrev pub read_as : {r z x : ℤ} → r ≡ to_z w32 (of_z w32 z) → SFits w32 z → z ≡ x → Reads (to_z w64 (of_z w64 r)) x
read_as p f e = read_r w64 record { size = as_b p (leaf_b w32 f); good = true; same = λ t. p ∙ plain f ∙ e }

-- the height of the eye or of the object
abbrev pub look_b : {r : ℤ} {n : ℕ} → r ≡ pos n → n < 2 ^ 32 → Below r
look_b p l = as_b p (nat_b (2 ^ 32) (omega arith))

abbrev pub look_as : {r : ℤ} {n : ℕ} → r ≡ pos n → n < 2 ^ 32 → Reads (to_z w64 (of_z w64 r)) (pos n)
look_as p l = read_r w64 record { size = look_b p l; good = true; same = λ t. p }

-- how far the road lies above an eye takes 34 bits
pub record Small (z : ℤ) : Type 0 where
  pub ok : nat_abs z ≤ 8589934592

abbrev pub small_b : {z : ℤ} → Small z → Below z
small_b s = record { b = 8589934592; ok = s.ok }

pub small_by : {z : ℤ} (u : Below z) → T (leb u.b 8589934592) → Small z
small_by u t = record { ok = omega (arith, u.ok, leb→le u.b 8589934592 t) }
