-- What holds of each entry of a table, and of the entry for a place behind it, holds of the entry at any place. The table of f 0, f 1 and so
-- on has f i at place i.
use mathlib.Core.Path.{◌≡◌, refl}
use Prim.Native.Nat.{ℕ, zero, suc, ◌≤◌, ◌<◌}
use mathlib.Core.List.{List, [], ◌∷◌}
use native.Mathlib.Omega.{arith}
use lib.ListN.{length, get_or}

module _ {A : Type 0} (P : A → Type 0) where
  abbrev pub Each : List A → Type 0
  Each [] = Unit {0}
  Each (x ∷ xs) = P x × Each xs

  pub each_at : (xs : List A) (i : ℕ) (behind : A) → Each xs → (length xs ≤ i → P behind) → P (get_or xs i behind)
  each_at [] i behind h k = k (omega arith)
  each_at (x ∷ xs) zero behind h k = h.0
  each_at (x ∷ xs) (suc i) behind h k = each_at xs i behind h.1 (λ l. k (omega arith))

-- what follows of each entry
pub each_map : {A : Type 0} {P Q : A → Type 0} → ((x : A) → P x → Q x) → (xs : List A) → Each P xs → Each Q xs
each_map f [] h = tt
each_map f (x ∷ xs) h = (f x h.0, each_map f xs h.1)

-- the table of f 0, f 1 and so on, with n entries
unfoldable pub tabulated : {A : Type 0} → (ℕ → A) → ℕ → List A
tabulated f zero = []
tabulated f (suc n) = f 0 ∷ tabulated (λ i. f (suc i)) n

-- its entry at a place
pub tabulated_at : {A : Type 0} (f : ℕ → A) (n i : ℕ) (behind : A) → i < n → get_or (tabulated f n) i behind ≡ f i
unfolding tabulated
tabulated_at f zero i behind l = absurd (omega arith)
tabulated_at f (suc n) zero behind l = refl
tabulated_at f (suc n) (suc i) behind l = tabulated_at (λ i. f (suc i)) n i behind (omega arith)
