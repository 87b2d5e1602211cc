-- docs/RULES.md, "Distances a driver needs": the required sight distance in whole metres.
--
-- Source document 002, equation (1), with the speed V in km/h and the reaction time T in seconds:
--   distance in m = 0.278 V T + 0.039 V² / a, a = 3.4 m/s².
-- T is t / 10 with t in tenths of a second. Over the one denominator 170,000 both terms are whole numbers:
--   0.278 V t / 10 = 4,726 V t / 170,000, since 0.0278 × 170,000 = 4,726;
--   0.039 V² / 3.4 = 1,950 V² / 170,000, since 0.039 × 170,000 / 3.4 = 1,950.
-- Equation (2), on a grade: the second term is V² / (254 (3.4 / 9.81 + G)). G is g / 10,000 with g in hundredths of a percent, and the
-- bracket is b / 9,810,000 with b = 3,400,000 + 981 g. Over the one denominator 635,000 b both terms are whole numbers:
--   0.278 V t / 10 = 17,653 V t b / (635,000 b), since 0.0278 × 635,000 = 17,653;
--   V² / (254 b / 9,810,000) = 24,525,000,000 V² / (635,000 b), since 9,810,000 × 635,000 / 254 = 24,525,000,000.
use Rattle.std.specs.Prelude.{ℕ, ◌+◌, ◌*◌, ◌-◌, ◌/◌, Bool, true, false, not, cond, ◌&&◌, List, [], ◌∷◌, ltb, eqb, ℤ, pos, nat_abs, ◌+ℤ◌, ◌*ℤ◌, get_or, Ok}
use Rattle.terms.specs.Answers.{outside, grade_outside, refuse, value_or_zero, Answer}
use Rattle.terms.specs.Limits.{least_speed, greatest_speed, stopping_purpose, last_purpose}
use Rattle.terms.specs.declared.Refusal.TheVariants.{SpeedOutside, WrongPurpose, GradeOutside}
use Rattle.distance.specs.declared.Distances.{Distances}
use Rattle.distance.specs.declared.Purpose.{Purpose}

abbrev row : ℕ → Bool → Purpose
row t b = record { reaction = t; braking = b }

-- the table of purposes: stopping, then decision A to E; T in tenths of a second, and whether the braking term counts
abbrev pub purposes : List Purpose
purposes = row 25 true ∷ row 30 true ∷ row 91 true ∷ row 112 false ∷ row 129 false ∷ row 145 false ∷ []

-- the row of a purpose; zeros for one over 5, which is refused first
abbrev pub purpose_row : ℕ → Purpose
purpose_row p = get_or purposes p (row 0 false)

-- the parts of a metre that distances on a level road are counted in before rounding
abbrev pub metre_parts : ℕ
metre_parts = 170000

-- the distance on a level road before rounding, in those parts
unfoldable pub level_parts : ℕ → Purpose → ℕ
level_parts v p = 4726 * v * p.reaction + cond p.braking (1950 * v * v) 0

-- b: 3.4 / 9.81 + G in parts of which 9,810,000 make one; it is positive on every grade that is not refused
abbrev pub deceleration_parts : ℤ → ℕ
deceleration_parts g = nat_abs (pos 3400000 +ℤ pos 981 *ℤ g)

-- the distance on a grade before rounding, braking counted, in parts of which 635,000 b make a metre
unfoldable pub graded_parts : ℕ → Purpose → ℕ → ℕ
graded_parts v p b = 17653 * v * p.reaction * b + 24525000000 * v * v

-- num / den metres, rounded up to a multiple of 5 m; an exact multiple stays
unfoldable pub up_to_five : ℕ → ℕ → ℕ
up_to_five num den = 5 * ((num + (5 * den - 1)) / (5 * den))

-- whole metres on a level road, and on a grade
unfoldable pub level_metres : ℕ → Purpose → ℕ
level_metres v p = up_to_five (level_parts v p) metre_parts

unfoldable pub graded_metres : ℕ → Purpose → ℤ → ℕ
graded_metres v p g = let b = deceleration_parts g in up_to_five (graded_parts v p b) (635000 * b)

-- a purpose with a braking term takes the grade; grade 0 keeps the level formula, and a purpose without braking ignores the grade
unfoldable pub metres_for : ℕ → Purpose → ℤ → ℕ
metres_for v p g = cond (p.braking && not (eqb (nat_abs g) 0)) (graded_metres v p g) (level_metres v p)

-- the required distance of a speed and a purpose on a grade: refused 6, then 7, then 10
unfoldable pub required_distance : ℕ → ℕ → ℤ → Answer
required_distance v p g =
    refuse (outside least_speed greatest_speed v) SpeedOutside
    (refuse (ltb last_purpose p) WrongPurpose
    (refuse (grade_outside g) GradeOutside
    (Ok (metres_for v (purpose_row p) g))))

-- what a speed needs on a grade to stop, and to decide for a purpose; 0 where that is refused
unfoldable pub distances_for : ℕ → ℕ → ℤ → Distances
distances_for v p g = record {
  stopping = value_or_zero (required_distance v stopping_purpose g);
  decision = value_or_zero (required_distance v p g);
}
