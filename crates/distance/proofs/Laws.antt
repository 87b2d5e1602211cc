-- Laws of the required distance: what rounding up to 5 m is, what stands in the sheet of level distances, what the distance on a grade is,
-- and how large the numbers are.
use mathlib.Core.Path.{◌≡◌, ap, ◌∙◌}
use mathlib.Core.Bool.{Bool, true, false, not, cond, ◌&&◌}
use mathlib.Core.List.{List, []}
use Prim.Native.Nat.{ℕ, ◌+◌, ◌*◌, ◌-◌, ◌≤◌, ◌<◌, zero-le}
use native.Mathlib.Nat.{le_refl, mul-le-mul, div-mul-le_self, lt-div-mul-add, div-eq_of_lt-le, lt_of_mul-lt-mul_right}
use native.Mathlib.Omega.{arith}
use lib.Dec.{T, ltb, eqb}
use lib.IntN.{ℤ, pos, nat_abs, ◌+ℤ◌, ◌*ℤ◌}
use lib.ListN.{get_or}
use lib.Signed.{non_neg}
use Rattle.whole.proofs.Int.{var, nat, add, neg, mul, le_to, natural_is}
use Rattle.whole.proofs.Table.{each_at, tabulated, tabulated_at}
use Rattle.terms.specs.Answers.{outside, grade_outside}
use Rattle.terms.specs.Limits.{least_speed, greatest_speed, stopping_purpose, last_purpose, greatest_grade}
use Rattle.terms.proofs.Laws.{AtMost, GradeIn, value_at_most, refuse_at_most, inside, not_outside_in, grade_inside, grade_in}
use Rattle.distance.specs.declared.Purpose.{Purpose}
use Rattle.distance.specs.Distance.{purposes, purpose_row, metre_parts, level_parts, deceleration_parts, graded_parts, up_to_five, level_metres, graded_metres, metres_for, required_distance, distances_for}

-- ---- rounding up to 5 m
module _ (num den : ℕ) (l : 0 < den) where
  -- not below num / den metres
  pub up_to_five_above : num ≤ up_to_five num den * den
  unfolding up_to_five
  up_to_five_above = omega (arith, lt-div-mul-add {a = num + (5 * den - 1)} {b = 5 * den} (omega arith))

  -- and less than 5 m above it
  pub up_to_five_below : up_to_five num den * den < num + 5 * den
  unfolding up_to_five
  up_to_five_below = omega (arith, div-mul-le_self (num + (5 * den - 1)) (5 * den))

-- an exact multiple stays
pub up_to_five_exact : (k den : ℕ) → 0 < den → up_to_five (5 * k * den) den ≡ 5 * k
unfolding up_to_five
up_to_five_exact k den l = ap (λ (n : ℕ). 5 * n) (div-eq_of_lt-le (5 * den) (omega arith) (omega arith))

-- ---- the sheet of level distances
-- a purpose's row by the formula: a number for each speed
abbrev sheet_row : ℕ → List ℕ
sheet_row p = tabulated (λ (k : ℕ). level_metres (least_speed + k) (purpose_row p)) (greatest_speed - least_speed + 1)

-- the sheet by the formula, a row for each purpose: what the code's table has to be
abbrev pub sheet : List (List ℕ)
sheet = tabulated sheet_row (last_purpose + 1)

-- read at a speed and a purpose it has the level distance
pub sheet_at : (v p : ℕ) → least_speed ≤ v → v ≤ greatest_speed → p ≤ last_purpose →
    get_or (get_or sheet p []) (v - least_speed) 0 ≡ level_metres v (purpose_row p)
sheet_at v p low high last =
    let back : least_speed + (v - least_speed) ≡ v = omega arith in
    rw (tabulated_at sheet_row (last_purpose + 1) p [] (omega arith))
    (tabulated_at _ _ (v - least_speed) 0 (omega arith) ∙ ap (λ (v : ℕ). level_metres v (purpose_row p)) back)

-- ---- on a grade
-- the parts over 635,000 b are 278 V t / 10,000 + 9,810,000 V² / (254 b): equation (2) with its own numbers
pub graded_parts_is : (v : ℕ) (p : Purpose) (b : ℕ) →
    graded_parts v p b * (10000 * (254 * b)) ≡ (278 * v * p.reaction * (254 * b) + 10000 * (9810000 * v * v)) * (635000 * b)
unfolding graded_parts
graded_parts_is v p b = omega arith

-- ---- sizes
pub reaction_small : (p : ℕ) → (purpose_row p).reaction ≤ 145
reaction_small p = each_at (λ (row : Purpose). row.reaction ≤ 145) purposes p _ (omega arith) (λ _. omega arith)

cond_at_most : (b : Bool) {m n k : ℕ} → m ≤ k → n ≤ k → cond b m n ≤ k
cond_at_most true h l = h
cond_at_most false h l = l

-- on a level road at most 718 m
level_parts_small : (v : ℕ) (p : Purpose) → v ≤ greatest_speed → p.reaction ≤ 145 → level_parts v p ≤ 122040100
unfolding level_parts
level_parts_small v p h k =
    let r = mul-le-mul h k in
    let b : 1950 * v * v ≤ 32955000 = omega (arith, mul-le-mul h h) in
    omega (arith, cond_at_most p.braking b zero-le)

-- on a grade b is positive, and from 1,928,500 to 4,871,500
module _ (g : ℤ) (range : GradeIn g) where
  pub deceleration_in : T (non_neg (pos 3400000 +ℤ pos 981 *ℤ g)) × (1928500 ≤ deceleration_parts g) × (deceleration_parts g ≤ 4871500)
  deceleration_in =
      let low = le_to range.0 (neg (nat greatest_grade)) (var g) in
      let high = le_to range.1 (var g) (nat greatest_grade) in
      let is = natural_is _ (add (nat 3400000) (mul (nat 981) (var g))) (omega arith) in
      (is.0, omega (arith, is.1), omega (arith, is.1))

-- so that the distance is at most 863 m
pub graded_parts_small : (v : ℕ) (p : Purpose) (b : ℕ) → v ≤ greatest_speed → p.reaction ≤ 145 → 1928500 ≤ b →
    graded_parts v p b ≤ 863 * (635000 * b)
unfolding graded_parts
graded_parts_small v p b h k l =
    let reacting = mul-le-mul (mul-le-mul h k) (le_refl b) in
    omega (arith, reacting, mul-le-mul h h)

-- ---- a required distance is at most 870 m
level_at_most : (v : ℕ) (p : Purpose) → v ≤ greatest_speed → p.reaction ≤ 145 → level_metres v p ≤ 870
unfolding level_metres
level_at_most v p h k =
    omega (arith, level_parts_small v p h k, up_to_five_below (level_parts v p) metre_parts (omega arith))

graded_at_most : (v : ℕ) (p : Purpose) (g : ℤ) → v ≤ greatest_speed → p.reaction ≤ 145 → GradeIn g → graded_metres v p g ≤ 870
unfolding graded_metres
graded_at_most v p g h k range =
    let b = deceleration_parts g in let low = (deceleration_in g range).1 in
    let parts = graded_parts_small v p b h k low in
    let below = up_to_five_below (graded_parts v p b) (635000 * b) (omega arith) in
    let less : up_to_five (graded_parts v p b) (635000 * b) < 871 = lt_of_mul-lt-mul_right (635000 * b) (omega arith) in
    omega arith

pub metres_at_most : (v : ℕ) (p : Purpose) (g : ℤ) → v ≤ greatest_speed → p.reaction ≤ 145 → GradeIn g → metres_for v p g ≤ 870
unfolding metres_for
metres_at_most v p g h k range =
    cond_at_most (p.braking && not (eqb (nat_abs g) 0)) (graded_at_most v p g h k range) (level_at_most v p h k)

-- the same where the tests of the speed and the grade do not refuse it
pub metres_small : (v p : ℕ) (g : ℤ) → outside least_speed greatest_speed v ≡ false → grade_outside g ≡ false →
    metres_for v (purpose_row p) g ≤ 870
metres_small v p g s u =
    let speed = not_outside_in least_speed greatest_speed v s in
    metres_at_most v (purpose_row p) g speed.1 (reaction_small p) (grade_in g u)

pub required_at_most : (v p : ℕ) (g : ℤ) → AtMost 870 (required_distance v p g)
unfolding required_distance
required_at_most v p g =
    refuse_at_most (outside least_speed greatest_speed v) _ _ _ (λ s.
    refuse_at_most (ltb last_purpose p) _ _ _ (λ t.
    refuse_at_most (grade_outside g) _ _ _ (λ u.
    metres_at_most v (purpose_row p) g (inside least_speed greatest_speed v s).1 (reaction_small p) (grade_inside g u))))

pub distances_at_most : (v p : ℕ) (g : ℤ) → ((distances_for v p g).stopping ≤ 870) × ((distances_for v p g).decision ≤ 870)
unfolding distances_for
distances_at_most v p g = (
  value_at_most (required_distance v stopping_purpose g) (required_at_most v stopping_purpose g),
  value_at_most (required_distance v p g) (required_at_most v p g),
)
