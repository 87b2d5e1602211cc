-- A stretch that is filled from its end back: nothing yet, and one place more at its front.
use mathlib.Core.List.{List}
use mathlib.Core.Path.{◌≡◌}
use Prim.Native.Nat.{ℕ, ◌+◌, ◌-◌, ◌<◌, ◌≤◌}
use native.Mathlib.Omega.{arith}
use lib.ListN.{set}
use Rattle.whole.specs.Fill.{filled}
use Rattle.whole.proofs.Fill.{filled_none, filled_front, filled_to}

module _ {A : Type 0} (f : ℕ → A) (end : ℕ) (xs : List A) where
  pub back_none : xs ≡ filled f end (end - end) xs
  back_none = filled_to f end 0 (end - end) xs xs (omega arith) (filled_none f end xs)

  pub back_more : (j : ℕ) (out : List A) (v : A) → 0 < j → j ≤ end → out ≡ filled f j (end - j) xs → v ≡ f (j - 1) →
      set out (j - 1) v ≡ filled f (j - 1) (end - (j - 1)) xs
  back_more j out v some within p q =
      filled_to f (j - 1) (end - j + 1) (end - (j - 1)) xs _ (omega arith) (filled_front f (j - 1) (end - j) j xs out v (omega arith) p q)
