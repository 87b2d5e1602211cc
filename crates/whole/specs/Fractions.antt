-- docs/RULES.md, "The road and its heights": fractions of whole numbers, as exact heights are. They are compared by products, since denominators are positive.
use Rattle.std.specs.Prelude.{ℕ, ◌*◌, Bool, ℤ, pos, ◌+ℤ◌, ◌*ℤ◌}
use Rattle.std.specs.Int.Signed.{le_z}

-- num over den; den is positive wherever one is used
pub record Frac : Type 0 where
  pub num : ℤ
  pub den : ℕ

-- a whole number as a fraction
abbrev pub whole : ℤ → Frac
whole z = record { num = z; den = 1 }

-- n more than q
abbrev pub raised : Frac → ℕ → Frac
raised q n = record { num = q.num +ℤ pos (n * q.den); den = q.den }

-- the sum
infixl 6 ◌+F◌
abbrev pub ◌+F◌ : Frac → Frac → Frac
p +F q = record { num = p.num *ℤ pos q.den +ℤ q.num *ℤ pos p.den; den = p.den * q.den }

-- n times q
infixl 7 ◌*F◌
abbrev pub ◌*F◌ : Frac → ℕ → Frac
q *F n = record { num = q.num *ℤ pos n; den = q.den }

-- p ≤ q
abbrev pub le_f : Frac → Frac → Bool
le_f p q = le_z (p.num *ℤ pos q.den) (q.num *ℤ pos p.den)
