-- docs/RULES.md, "How long a crest must be" and "How long a sag must be".
--
-- A length L of a curve is adequate for a change in grade a and a sight distance S, with Q = u + √w, when
--   S ≤ L and L Q ≥ a S², or L < S and a (2 S − L) ≤ Q.
-- For a crest a is the drop, u = 2 (e + o) and w = 16 e o. With the root isolated the two inequalities are
--   a S² − L u ≤ L √w = √(L² w), and a (2 S − L) − u ≤ √w.
-- Each has the form x − y ≤ √z in whole numbers. Where x ≤ y its left side is not positive and it holds; else the left
-- side is positive, the right side is not negative, and it holds exactly when (x − y)² ≤ z.
-- For a sag a is the rise, u = 12,000 + 350 S and w = 0. A root of 0 changes nothing, so the two inequalities are the plain
-- ones with Q = u: that is the theorem SagInequalities.
use Rattle.std.specs.Prelude.{ℕ, zero, suc, ◌+◌, ◌*◌, ◌-◌, ◌/◌, Bool, cond, ◌||◌, ◌&&◌, leb, Ok, Err}
use Rattle.terms.specs.Answers.{outside, eye_or_object_outside, refuse, unless, Answer, Verdict, accepted}
use Rattle.terms.specs.Limits.{least_speed, greatest_speed, greatest_grade_change, greatest_sight_distance, greatest_answered_length}
use Rattle.terms.specs.declared.Refusal.TheVariants.{SpeedOutside, GradeChangeOutside, SightDistanceOutside, HeightOutside, NoLength}

-- x − y ≤ √z: the sign of the left side first, then the squares
unfoldable pub within_root : ℕ → ℕ → ℕ → Bool
within_root x y z = leb x y || leb ((x - y) * (x - y)) z

-- the length L is adequate for the change in grade a and the sight distance S, with Q = u + √w
unfoldable pub adequate : ℕ → ℕ → ℕ → ℕ → ℕ → Bool
adequate a s u w l =
    cond (leb s l)
    (within_root (a * (s * s)) (l * u) (l * l * w))
    (within_root (a * (2 * s - l)) u w)

-- the length L of a crest is adequate for an eye height e and an object height o: Q = 2 (e + o) + √(16 e o)
abbrev pub crest_adequate : ℕ → ℕ → ℕ → ℕ → ℕ → Bool
crest_adequate a s e o = adequate a s (2 * (e + o)) (16 * e * o)

-- the length L of a sag is adequate under headlights: AASHTO rounds 200 (0.60 + S tan 1°) to 120 + 3.5 S, for a rise in percent, so for
-- one in hundredths of a percent Q = 12,000 + 350 S
abbrev pub sag_adequate : ℕ → ℕ → ℕ → Bool
sag_adequate a s = adequate a s (12000 + 350 * s) 0

-- the length L reaches the Green Book's minimum for the speed V in km/h, 0.6 V metres: 3 V ≤ 5 L
unfoldable pub reaches_minimum : ℕ → ℕ → Bool
reaches_minimum v l = leb (3 * v) (5 * l)

-- the length L is long enough: it reaches the minimum for the speed V, and it passes the test of adequacy
unfoldable pub long_enough : ℕ → (ℕ → Bool) → ℕ → Bool
long_enough v test l = reaches_minimum v l && test l

-- the first of n lengths l, l + 2, l + 4, … that passes the test; refused 18 where none does
unfoldable pub least_even : (ℕ → Bool) → ℕ → ℕ → Answer
least_even test l zero = Err NoLength
least_even test l (suc n) = cond (test l) (Ok l) (least_even test (l + 2) n)

-- the least even length from 0 to 2,000 that passes the test; refused 18 where none does
abbrev pub least_length : (ℕ → Bool) → Answer
least_length test = least_even test 0 (greatest_answered_length / 2 + 1)

-- what crests and sags are refused alike, of a speed V, a change in grade a and a sight distance S: 6, 15, 16
unfoldable pub length_verdict : ℕ → ℕ → ℕ → Verdict
length_verdict v a s =
    refuse (outside least_speed greatest_speed v) SpeedOutside
    (refuse (outside 1 greatest_grade_change a) GradeChangeOutside
    (refuse (outside 1 greatest_sight_distance s) SightDistanceOutside accepted))

-- the crest length of a speed V, a drop a, a sight distance S, an eye height e and an object height o: refused 6, 15, 16, 17,
-- then 18; else the least even length from 0 to 2,000 that is adequate and reaches the minimum
unfoldable pub crest_length : ℕ → ℕ → ℕ → ℕ → ℕ → Answer
crest_length v a s e o =
    unless (length_verdict v a s)
    (refuse (eye_or_object_outside e o) HeightOutside
    (least_length (long_enough v (crest_adequate a s e o))))

-- the sag length of a speed V, a rise a and a sight distance S: refused 6, 15, 16, then 18; else the least even length from 0 to 2,000
-- that is adequate and reaches the minimum
unfoldable pub sag_length : ℕ → ℕ → ℕ → Answer
sag_length v a s = unless (length_verdict v a s) (least_length (long_enough v (sag_adequate a s)))
