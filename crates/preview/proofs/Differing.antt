-- Laws of the count of stations that differ: what it depends on, what 0 says, and that it counts the places at which two lists differ.
use Prim.Native.Nat.{ℕ, zero, suc, ◌+◌, ◌≤◌, ◌<◌}
use mathlib.Core.Bool.{cond, not}
use mathlib.Core.List.{List}
use mathlib.Core.Logic.{◌↔◌, ⊎_elim}
use mathlib.Core.Path.{◌≡◌, refl, ap₂, ◌∙◌}
use native.Mathlib.Nat.{eq-or-lt_of_le}
use native.Mathlib.Omega.{arith}
use Rattle.std.proofs.lemmas.Bool.Decides.{nat_tests}
use borrow.Author.Tests.{eq-eqb}
use lib.Dec.{eqb}
use lib.ListN.{length, get_or, take}
use native.Mathlib.Numerals.{add-one}
use Rattle.std.proofs.lemmas.List.Sums.{sum_by_more}
use Rattle.std.proofs.lemmas.Slice.Zip.{length-zip, get_or-zip}
use Rattle.std.specs.List.{count_by, zip}
use Rattle.preview.specs.Preview.{differing}

-- ---- what one station adds
abbrev adds : ℕ → ℕ → ℕ
adds a b = cond (eqb a b) 0 1

pub adds_none : (a b : ℕ) → a ≡ b → adds a b ≡ 0
adds_none a b e = rw (eq-eqb a b e) refl

adds_at_most : (a b : ℕ) → adds a b ≤ 1
adds_at_most a b = grind (arith, nat_tests)

none_adds : (a b : ℕ) → adds a b ≡ 0 → a ≡ b
none_adds a b e = grind (arith, nat_tests)

-- ---- the count
module _ (f g : ℕ → ℕ) where
  -- at most all stations differ
  pub differing_at_most : (n : ℕ) → differing f g n ≤ n
  unfolding differing
  differing_at_most zero = omega arith
  differing_at_most (suc n) = omega (arith, differing_at_most n, adds_at_most (f n) (g n))

  -- only what they are at those stations counts
  pub differing_cong : (p q : ℕ → ℕ) (n : ℕ) → ((i : ℕ) → i < n → f i ≡ p i) → ((i : ℕ) → i < n → g i ≡ q i) →
      differing f g n ≡ differing p q n
  unfolding differing
  differing_cong p q zero h k = refl
  differing_cong p q (suc n) h k =
      rw (differing_cong p q n (λ i l. h i (omega arith)) (λ i l. k i (omega arith)), h n (omega arith), k n (omega arith)) refl

  -- none differs exactly where they are the same at each of those stations
  same_where_none : (n : ℕ) → differing f g n ≡ 0 → (i : ℕ) → i < n → f i ≡ g i
  unfolding differing
  same_where_none zero e i h = absurd (omega arith)
  same_where_none (suc n) e i h =
      ⊎_elim
      (λ same. rw same (none_adds (f n) (g n) (omega arith)))
      (λ below. same_where_none n (omega arith) i below)
      (eq-or-lt_of_le {n = i} {m = n} (omega arith))

  none_where_same : (n : ℕ) → ((i : ℕ) → i < n → f i ≡ g i) → differing f g n ≡ 0
  unfolding differing
  none_where_same zero h = refl
  none_where_same (suc n) h =
      omega (arith, none_where_same n (λ i l. h i (omega arith)), adds_none (f n) (g n) (h n (omega arith)))

  pub differing_none : (n : ℕ) → (differing f g n ≡ 0) ↔ ((i : ℕ) → i < n → f i ≡ g i)
  differing_none n = (same_where_none n, none_where_same n)

-- ---- two lists
as_counted : (a b : ℕ) → cond (not (eqb a b)) 1 0 ≡ adds a b
as_counted a b = grind (arith, nat_tests)

pub differing_zip : (xs ys : List ℕ) (n : ℕ) → n ≤ length xs → n ≤ length ys →
    count_by (λ (p : ℕ × ℕ). not (eqb p.0 p.1)) (take n (zip xs ys)) ≡ differing (λ i. get_or xs i 0) (λ i. get_or ys i 0) n
unfolding differing
differing_zip xs ys zero k l = refl
differing_zip xs ys (suc n) k l =
    let more = sum_by_more (λ (p : ℕ × ℕ). cond (not (eqb p.0 p.1)) 1 0) (zip xs ys) n (0, 0) (omega (arith, length-zip xs ys)) in
    rw add-one at more
    ∙ ap₂ (λ (a b : ℕ). a + b) (differing_zip xs ys n (omega arith) (omega arith))
    (rw (get_or-zip xs ys n (0, 0) (omega arith) (omega arith)) (as_counted (get_or xs n 0) (get_or ys n 0)))
