-- What refusal 18 means (docs/RULES.md, "How long a crest must be" and "How long a sag must be"): that no even length up to 2,000 m is
-- adequate, and nothing of the minimum for the speed. It speaks of the definitions that the contracts of the two lengths cite.
use Rattle.std.specs.Prelude.{ℕ, ◌%◌, ◌≤◌, Bool, ◌↔◌, ◌≡◌, T, Err}
use Rattle.terms.specs.Limits.{least_speed, greatest_speed, greatest_grade_change, greatest_sight_distance, greatest_height, greatest_answered_length}
use Rattle.terms.specs.declared.Refusal.TheVariants.{NoLength}
use Rattle.curve_lengths.specs.Lengths.{crest_adequate, sag_adequate, crest_length, sag_length}

-- V, a and S are in their ranges
pub record InRange (v a s : ℕ) : Type 0 where
  pub speed : (least_speed ≤ v) × (v ≤ greatest_speed)
  pub change : (1 ≤ a) × (a ≤ greatest_grade_change)
  pub sight : (1 ≤ s) × (s ≤ greatest_sight_distance)

-- e and o are in theirs
pub record HeightsInRange (e o : ℕ) : Type 0 where
  pub eye : (1 ≤ e) × (e ≤ greatest_height)
  pub object : (1 ≤ o) × (o ≤ greatest_height)

-- no even length up to 2,000 passes the test
abbrev pub NoEvenLength : (ℕ → Bool) → Type 0
NoEvenLength test = (l : ℕ) → l % 2 ≡ 0 → l ≤ greatest_answered_length → T (test l) → ⊥

-- 18 is said exactly where the numbers are in their ranges and no even length up to 2,000 is adequate
pub record NoneAdequate : Type 0 where
  -- of every crest, by its speed, drop, sight distance, eye and object height
  pub crest :
      (v a s e o : ℕ)
      → (crest_length v a s e o ≡ Err NoLength)
      ↔ ((InRange v a s × HeightsInRange e o) × NoEvenLength (crest_adequate a s e o))
  -- of every sag, by its speed, rise and sight distance
  pub sag :
      (v a s : ℕ)
      → (sag_length v a s ≡ Err NoLength)
      ↔ (InRange v a s × NoEvenLength (sag_adequate a s))
