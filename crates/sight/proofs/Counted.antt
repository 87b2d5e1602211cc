-- How many sight lines a search has compared. A station whose road is on the steepest line or above it has its road seen, and counts once;
-- one whose road is below it has its road hidden, and counts twice.
use mathlib.Core.Path.{◌≡◌, refl}
use mathlib.Core.Bool.{Bool, true, false, cond}
use mathlib.Core.List.{List}
use Prim.Native.Nat.{ℕ, zero, suc, ◌+◌, ◌-◌, ◌*◌, ◌≤◌, ◌<◌, min}
use native.Mathlib.Omega.{arith}
use lib.Dec.{T}
use lib.IntN.{ℤ, pos, ◌+ℤ◌, +ℤ_idr}
use lib.ListN.{length}
use Rattle.terms.specs.Limits.{greatest_farthest}
use Rattle.directions.specs.Directions.{faced, counted}
use Rattle.sight.specs.Sight.{height_at, seen}
use Rattle.sight.specs.Comparisons.{total, tried, comparisons_at, comparisons, comparisons_toward}
use Rattle.sight.proofs.Steepest.{
  NoSteeper,
  Flatter,
  slope_raise,
  rise,
  Passed,
  object_seen,
  object_hidden,
  passed_hidden,
  passed_all,
}

-- ---- sums
pub total_next : (f : ℕ → ℕ) (n : ℕ) → total f (n + 1) ≡ total f n + f n
unfolding total
total_next f n = let q : n + 1 ≡ suc n = omega arith in rw q refl

total_most : (f : ℕ → ℕ) (b n : ℕ) → ((t : ℕ) → f t ≤ b) → total f n ≤ n * b
unfolding total
total_most f b zero l = omega arith
total_most f b (suc n) l = omega (arith, l n, total_most f b n l)

-- ---- object stations
record OneOrTwo (Shown : Type 0) (n : ℕ) : Type 0 where
  most : n ≤ 2
  once : Shown → n ≡ 1
  twice : (Shown → ⊥) → n ≡ 2

one_or_two : (list : List ℤ) (i e j : ℕ) → OneOrTwo (T (seen (height_at list) e 0 i j)) (comparisons_at list i e j)
unfolding comparisons_at
one_or_two list i e j = go (seen (height_at list) e 0 i j)
  where
    go : (b : Bool) → OneOrTwo (T b) (cond b 1 2)
    go true = record { most = omega arith; once = λ t. refl; twice = λ n. absurd (n tt) }
    go false = record { most = omega arith; once = λ t. absurd t; twice = λ n. refl }

pub one_or_two_most : (list : List ℤ) (i e j : ℕ) → comparisons_at list i e j ≤ 2
one_or_two_most list i e j = (one_or_two list i e j).most

-- the comparisons for the first n object stations
abbrev pub compared : List ℤ → ℕ → ℕ → ℕ → ℕ
compared list i e n = total (λ t. comparisons_at list i e (i + 1 + t)) n

pub compared_most : (list : List ℤ) (i e n : ℕ) → compared list i e n ≤ n * 2
compared_most list i e n = total_most (λ t. comparisons_at list i e (i + 1 + t)) 2 n (λ t. one_or_two_most list i e (i + 1 + t))

compared_next : (list : List ℤ) (i e n : ℕ) → 0 < n →
    compared list i e (n + 1 - 1) ≡ compared list i e (n - 1) + comparisons_at list i e (i + n)
compared_next list i e n l =
    let q : n + 1 - 1 ≡ n - 1 + 1 = omega arith in let r : i + 1 + (n - 1) ≡ i + n = omega arith in
    rw (q, ← r) (total_next (λ t. comparisons_at list i e (i + 1 + t)) (n - 1))

-- ---- stations
pub comparisons_most : (list : List ℤ) (i e o far : ℕ) → comparisons list i e o far ≤ tried list i e o far * 2
unfolding comparisons
comparisons_most list i e o far = compared_most list i e (tried list i e o far)

-- those from n stations on from `first`, in a direction
pub comparisons_walk : (list : List ℤ) (back : Bool) (first e o far n : ℕ) → far ≤ greatest_farthest →
    total (λ k. comparisons_toward list back (first + k) e o far) n ≤ n * (greatest_farthest * 2)
unfolding comparisons_toward tried
comparisons_walk list back first e o far n l =
    total_most (λ k. comparisons_toward list back (first + k) e o far) (greatest_farthest * 2) n
    (λ k. omega (arith, comparisons_most (faced back list) (counted back (length list) (first + k)) e o far))

-- ---- a search that has tried the object stations before the one `next` metres ahead
-- of the `now` comparisons `before` are those from other stations, and the rest those for these object stations
pub record Counted (list : List ℤ) (i e before now next : ℕ) : Type 0 where
  pub sum : now ≡ before + compared list i e (next - 1)

pub counted_none : (list : List ℤ) (i e now : ℕ) → Counted list i e now now 1
unfolding total
counted_none list i e now = record { sum = omega arith }

module _ {list : List ℤ} {e o i run next before now : ℕ} (c : Counted list i e before now next)
    (w : Passed (height_at list) e o i run next) where
  abbrev h : ℕ → ℤ
  h = height_at list

  -- the next station's road is on the line or above it
  pub counted_once : NoSteeper (rise h e i run) run (rise h e i next) next → Counted list i e before (now + 1) (next + 1)
  counted_once f =
      let seen = object_seen w 0 (slope_raise (rise h e i run) (rise h e i next) 0 run next f) in
      let more = compared_next list i e next (omega (arith, w.before)) in
      record { sum = omega (arith, c.sum, more, (one_or_two list i e (i + next)).once seen) }

  -- it is below the line: an object of height 0 on it is hidden
  pub counted_both : Flatter (rise h e i next) next (rise h e i run) run → Counted list i e before (now + 1 + 1) (next + 1)
  counted_both f =
      let hidden = object_hidden w 0 (rw (+ℤ_idr (rise h e i next)) f) in
      let more = compared_next list i e next (omega (arith, w.before)) in
      record { sum = omega (arith, c.sum, more, (one_or_two list i e (i + next)).twice hidden) }

  module _ (far : ℕ) where
    -- all up to the limit are seen
    pub counted_all : next ≡ min far (length list - 1 - i) + 1 → now ≡ before + comparisons list i e o far
    unfolding comparisons tried
    counted_all q =
        let n : tried list i e o far ≡ next - 1 = omega (arith, passed_all list far w q) in
        rw n c.sum

    -- the object on the next station is below the line too, and hidden
    pub counted_hidden : next ≤ min far (length list - 1 - i) → Flatter (rise h e i next) next (rise h e i run) run →
        Flatter (rise h e i next +ℤ pos o) next (rise h e i run) run → now + 1 + 1 ≡ before + comparisons list i e o far
    unfolding comparisons tried
    counted_hidden l f g =
        let n : tried list i e o far ≡ next + 1 - 1 = omega (arith, w.before, passed_hidden list far w l g) in
        rw n (counted_both f).sum
