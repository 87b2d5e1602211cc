-- What the test `seen` tells: the inequality of the rules at every station strictly between. And what a search that goes from station to
-- station knows of those that it has passed.
use mathlib.Core.Path.{◌≡◌}
use mathlib.Core.Bool.{Bool}
use mathlib.Core.Logic.{⊎_elim}
use Prim.Native.Nat.{ℕ, zero, suc, ◌+◌, ◌-◌, ◌<◌}
use native.Mathlib.Nat.{eq-or-lt_of_le, le_of_suc-le-suc}
use native.Mathlib.Omega.{arith}
use lib.Dec.{T}
use lib.IntN.{ℤ, pos, ◌+ℤ◌, ◌*ℤ◌}
use lib.Signed.{◌≤ℤ◌, le_z_yes}
use mir.Facts.{and_yes, yes_and}
use Rattle.sight.specs.Sight.{clears, every, every_between, seen}

-- ---- every station between
-- P holds of every number strictly between i and n
abbrev pub Between : (ℕ → Type 0) → ℕ → ℕ → Type 0
Between P i n = (k : ℕ) → i < k → k < n → P k

-- what holds before n and of n
pub one_more : {P : ℕ → Type 0} {i n : ℕ} → Between P i n → P n → Between P i (n + 1)
one_more {n} f p k l r = ⊎_elim (λ q. rw q p) (f k l) (eq-or-lt_of_le {n = k} {m = n} (omega arith))

every_at : (p : ℕ → Bool) (n : ℕ) → T (every p n) → (d : ℕ) → d < n → T (p d)
unfolding every
every_at p zero t d l = absurd (omega arith)
every_at p (suc n) t d l =
    let w = and_yes (p n) (every p n) t in
    ⊎_elim (λ q. rw q w.0) (λ q. every_at p n w.1 d q) (eq-or-lt_of_le {n = d} {m = n} (le_of_suc-le-suc l))

every_by : (p : ℕ → Bool) (n : ℕ) → ((d : ℕ) → d < n → T (p d)) → T (every p n)
unfolding every
every_by p zero f = tt
every_by p (suc n) f = yes_and (p n) (every p n) (f n (omega arith)) (every_by p n (λ d l. f d (omega arith)))

module _ (i j : ℕ) (p : ℕ → Bool) where
  pub between_at : T (every_between i j p) → Between (λ k. T (p k)) i j
  unfolding every_between
  between_at t k l r =
      let q : i + 1 + (k - (i + 1)) ≡ k = omega arith in
      rw q at (every_at (λ d. p (i + 1 + d)) (j - (i + 1)) t (k - (i + 1)) (omega arith))

  pub between_by : Between (λ k. T (p k)) i j → T (every_between i j p)
  unfolding every_between
  between_by f = every_by (λ d. p (i + 1 + d)) (j - (i + 1)) (λ d l. f (i + 1 + d) (omega arith) (omega arith))

-- ---- seen
abbrev pub Seen : (ℕ → ℤ) → ℕ → ℕ → ℕ → ℕ → Type 0
Seen h e o i j = Between (λ k. (h k *ℤ pos (j - i)) ≤ℤ ((h i +ℤ pos e) *ℤ pos (j - k) +ℤ (h j +ℤ pos o) *ℤ pos (k - i))) i j

module _ (h : ℕ → ℤ) (e o i j : ℕ) where
  pub seen_to : T (seen h e o i j) → Seen h e o i j
  unfolding seen clears
  seen_to t k l r = le_z_yes (between_at i j (clears h e o i j) t k l r)

  pub seen_by : Seen h e o i j → T (seen h e o i j)
  unfolding seen clears
  seen_by s = between_by i j (clears h e o i j) (λ k l r. (s k l r).le)
