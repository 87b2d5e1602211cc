-- How far is seen over any exact heights, and over a list of their floors: by proofs/Fractions.antt what is seen over the one is
-- seen over the other with an eye and an object 1 higher; who sees more sees as far; and both sights have the same limit.
use mathlib.Core.Path.{◌≡◌}
use mathlib.Core.List.{List}
use Prim.Native.Nat.{ℕ, ◌+◌, ◌-◌, ◌≤◌, ◌<◌}
use native.Mathlib.Omega.{arith}
use lib.IntN.{ℤ}
use lib.ListN.{length}
use Rattle.whole.specs.Fractions.{Frac}
use Rattle.whole.proofs.Floor.{Floor}
use Rattle.sight.specs.Sight.{height_at, clears, seen, available_sight}
use Rattle.sight.proofs.Reach.{sight_mono}
use Rattle.sight.proofs.Seen.{between_at, between_by}
use Rattle.exact.specs.ExactSight.{clears_exactly, seen_exactly, exact_sight_over}
use Rattle.exact.proofs.Fractions.{exact_then_stored, stored_then_exact}

module _ (H : ℕ → Frac) (list : List ℤ) (last : ℕ) (size : length list - 1 ≡ last)
    (floors : (k : ℕ) → k ≤ last → Floor (H k) (height_at list k)) (i : ℕ) where
  split : {j k : ℕ} → i < k → k < j → j - i ≡ (j - k) + (k - i)
  split l m = omega arith

  exact_le_higher : (e o far : ℕ) → exact_sight_over H last i e o far ≤ available_sight list i (e + 1) (o + 1) far
  unfolding exact_sight_over seen_exactly clears_exactly available_sight seen clears
  exact_le_higher e o far =
      rw size (sight_mono i last far _ _ (λ j l on t. between_by i j _ (λ k l m.
      rw (split l m)
      (exact_then_stored (floors i (omega arith)) (floors j on) (floors k (omega arith)) (j - k) (k - i) e o
      record { products = record { le = rw (split l m) at (between_at i j _ t k l m) } }).le)))

  -- the sight over the floors is at most the exact one with eye and object 1 higher,
  pub sight_le_exact : (e o far : ℕ) → available_sight list i e o far ≤ exact_sight_over H last i (e + 1) (o + 1) far
  unfolding exact_sight_over seen_exactly clears_exactly available_sight seen clears
  sight_le_exact e o far =
      rw size (sight_mono i last far _ _ (λ j l on t. between_by i j _ (λ k l m.
      rw (split l m)
      (stored_then_exact (floors i (omega arith)) (floors j on) (floors k (omega arith)) (j - k) (k - i) e o
      record { le = rw (split l m) at (between_at i j _ t k l m) }).products.le)))

  -- and at least the exact one with them 1 lower
  pub exact_le_sight : (e o far : ℕ) → 1 ≤ e → 1 ≤ o → exact_sight_over H last i (e - 1) (o - 1) far ≤ available_sight list i e o far
  exact_le_sight e o far le lo =
      let higher : (x : ℕ) → 1 ≤ x → x - 1 + 1 ≡ x = λ x l. omega arith in
      rw (higher e le, higher o lo) at (exact_le_higher (e - 1) (o - 1) far)
