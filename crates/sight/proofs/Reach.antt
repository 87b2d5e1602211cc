-- Laws of `reach`, and so of the available sight: what holds of it, that nothing else has that, and how it follows its limit and
-- what is seen.
use mathlib.Core.Path.{◌≡◌, refl, sym, subst}
use mathlib.Core.Bool.{Bool, true, false, cond}
use mathlib.Core.List.{List}
use Prim.Native.Nat.{ℕ, zero, suc, ◌+◌, ◌-◌, ◌≤◌, ◌<◌, min}
use native.Mathlib.Omega.{arith}
use lib.Dec.{T}
use lib.IntN.{ℤ}
use lib.ListN.{length}
use Rattle.sight.specs.Sight.{height_at, seen, reach, sight_from, available_sight}

-- ---- reach, by what holds of it
-- P holds of each t from 1 to s, and s is the limit or P fails of the next t
pub record Available (P : ℕ → Type 0) (limit s : ℕ) : Type 0 where
  pub within : s ≤ limit
  pub all : (t : ℕ) → 0 < t → t ≤ s → P t
  pub stop : s < limit → P (suc s) → ⊥

available_mono : {P Q : ℕ → Type 0} {limit s r : ℕ} → ((t : ℕ) → 0 < t → t ≤ limit → P t → Q t) →
    Available P limit s → Available Q limit r → s ≤ r
available_mono {limit} {s} {r} f a b =
    let w = a.within in
    let n : ¬ (r < s)
    = λ l. b.stop (omega arith) (f (suc r) (omega arith) (omega arith) (a.all (suc r) (omega arith) (omega arith))) in
    omega arith

available_unique : {P : ℕ → Type 0} {limit s r : ℕ} → Available P limit s → Available P limit r → s ≡ r
available_unique a b = omega (arith, available_mono (λ t l m p. p) a b, available_mono (λ t l m p. p) b a)

pub reach_is : (p : ℕ → Bool) (limit : ℕ) → Available (λ t. T (p t)) limit (reach p limit)
unfolding reach
reach_is p zero = record { within = omega arith; all = λ t l m. absurd (omega arith); stop = λ l x. omega arith }
reach_is p (suc n) = go (p 1) refl (reach_is (λ t. p (suc t)) n)
  where
    go : (c : Bool) → p 1 ≡ c → Available (λ t. T (p (suc t))) n (reach (λ t. p (suc t)) n) →
        Available (λ t. T (p t)) (suc n) (cond c (suc (reach (λ t. p (suc t)) n)) 0)
    go true e a = record { within = omega (arith, a.within); all = each; stop = λ l x. a.stop (omega arith) x }
      where
        each : (t : ℕ) → 0 < t → t ≤ suc (reach (λ t. p (suc t)) n) → T (p t)
        each zero l m = absurd (omega arith)
        each (suc zero) l m = subst T (sym e) tt
        each (suc (suc t)) l m = a.all (suc t) (omega arith) (omega arith)
    go false e a = record { within = omega arith; all = λ t l m. absurd (omega arith); stop = λ l x. subst T e x }

-- up to a nearer limit it is the lesser of that and what it was
pub reach_min : (p : ℕ → Bool) (a n : ℕ) → reach p (min a n) ≡ min a (reach p n)
reach_min p a n = available_unique (reach_is p (min a n)) nearer
  where
    nearer : Available (λ t. T (p t)) (min a n) (min a (reach p n))
    nearer =
        let r = reach_is p n in
        record {
          within = omega (arith, r.within);
          all = λ t l m. r.all t l (omega arith);
          stop = λ l x. let q : min a (reach p n) ≡ reach p n = omega arith in r.stop (omega arith) (rw q at x);
        }

-- ---- the sight from a station
-- who sees more sees as far
pub sight_mono : (i last far : ℕ) (p q : ℕ → Bool) → ((j : ℕ) → i < j → j ≤ last → T (p j) → T (q j)) →
    sight_from i last far p ≤ sight_from i last far q
unfolding sight_from
sight_mono i last far p q f =
    available_mono (λ t l m. f (i + t) (omega arith) (omega arith))
    (reach_is (λ t. p (i + t)) _) (reach_is (λ t. q (i + t)) _)

-- ---- the available sight
module _ (list : List ℤ) (i e o : ℕ) where
  -- nothing else has what holds of it
  pub sight_by : (far : ℕ) {s : ℕ} → Available (λ t. T (seen (height_at list) e o i (i + t))) (min far (length list - 1 - i)) s →
      s ≡ available_sight list i e o far
  unfolding available_sight sight_from
  sight_by far a = available_unique a (reach_is _ _)

  pub sight_le_far : (far : ℕ) → available_sight list i e o far ≤ far
  unfolding available_sight sight_from
  sight_le_far far = omega (arith, (reach_is (λ t. seen (height_at list) e o i (i + t)) (min far (length list - 1 - i))).within)

  -- sight up to a nearer distance is the lesser of that and the sight up to a farther one
  pub sight_min : (a b : ℕ) → a ≤ b → available_sight list i e o a ≡ min a (available_sight list i e o b)
  unfolding available_sight sight_from
  sight_min a b l =
      let n = length list - 1 - i in
      let nearer : min a n ≡ min a (min b n) = omega arith in
      rw nearer (reach_min (λ t. seen (height_at list) e o i (i + t)) a (min b n))
