-- Laws of answers, verdicts and ranges.
use Prim.Native.Nat.{ℕ, zero, suc, ◌≤◌, ◌<◌}
use mathlib.Core.Bool.{Bool, true, false, not}
use mathlib.Core.List.{List}
use mathlib.Core.Path.{◌≡◌, refl, sym, subst, ◌∙◌}
use native.Mathlib.Omega.{arith}
use mir.Facts.{T_not-not, or_no}
use mir.Syntax.{w32}
use mir.Val.{SFits}
use borrow.Author.Tests.{lt-ltb, le-ltb}
use lib.Dec.{T, ltb, eqb, eqb→eq, nltb→le}
use lib.IntN.{ℤ, pos, neg_ℤ}
use lib.ListN.{length, take, replicate, length-replicate}
use lib.Seq.{length-take-le}
use lib.Signed.{◌≤ℤ◌, lt_z, lt_z_yes, lt_z_no, clash_ℤ}
use Rattle.whole.specs.Fill.{filled}
use Rattle.whole.proofs.Fill.{filled-length, filled-take, filled_whole}
use Rattle.std.specs.Prelude.{Ok, Err}
use Rattle.std.proofs.Common.{rules}
use Rattle.terms.specs.Answers.{outside, outside_ℤ, grade_outside, eye_or_object_outside, Answer, Verdict, accepted, refuse, unless, room_for, written, value_or_zero, signed}
use Rattle.terms.specs.Limits.{greatest_grade, greatest_height}
use Rattle.terms.specs.Refusals.{number}
use Rattle.terms.specs.declared.Refusal.{Refusal}
use Rattle.terms.specs.declared.Refusal.TheVariants.{NoRoom}

-- ---- answers
-- a value is at most m
abbrev pub AtMost : ℕ → Answer → Type 0
AtMost m (Ok n) = n ≤ m
AtMost m (Err refusal) = Unit {0}

pub value_at_most : (a : Answer) {m : ℕ} → AtMost m a → value_or_zero a ≤ m
value_at_most (Ok n) h = h
value_at_most (Err refusal) h = omega arith

-- what is not refused is bounded by the rest
pub refuse_at_most : (test : Bool) (refusal : Refusal) (m : ℕ) (rest : Answer) → (T (not test) → AtMost m rest) → AtMost m (refuse test refusal rest)
refuse_at_most true refusal m rest h = tt
refuse_at_most false refusal m rest h = h tt

-- no refusal's number is over 27
number_small : (refusal : Refusal) → number refusal ≤ 27
number_small refusal = search arith

-- a number below 2^31 with its sign changed is a signed 32-bit number
minus_fits : (n : ℕ) → n < 2147483648 → SFits w32 (neg_ℤ (pos n))
minus_fits zero l = record { sfits = omega arith }
minus_fits (suc n) l = record { sfits = omega arith }

-- an answer below 2^31 is a signed 32-bit number
pub signed_fits : (a : Answer) (m : ℕ) → m < 2147483648 → AtMost m a → SFits w32 (signed a)
signed_fits (Ok n) m l h = record { sfits = omega arith }
signed_fits (Err refusal) m l h = minus_fits (number refusal) (omega (arith, number_small refusal))

pub written-length : {A : Type 0} (f : ℕ → A) (answer : Answer) (xs : List A) → length (written f answer xs) ≡ length xs
written-length f (Ok n) xs = filled-length f 0 n xs
written-length f (Err refusal) xs = refl

-- accepted, and the list has room
pub room_number : {A : Type 0} (v : Verdict) (n : ℕ) (xs : List A) → v ≡ accepted → n ≤ length xs → unless v (room_for n xs) ≡ Ok n
room_number v n xs e l = rw (e, le-ltb (length xs) n l)

-- the three ways in which an operation ends that is refused by a verdict, then 14, and else writes the first n places
module _ {A : Type 0} (f : ℕ → A) (v : Verdict) (n : ℕ) (xs : List A) where
  abbrev pub Ends : Answer → List A → Type 0
  Ends a out = let answer = unless v (room_for n xs) in (a ≡ answer) × (out ≡ written f answer xs)

  pub ends_fault : {refusal : Refusal} → v ≡ Err refusal → Ends (Err refusal) xs
  ends_fault e = rw e (refl, refl)

  pub ends_no_room : v ≡ accepted → length xs < n → Ends (Err NoRoom) xs
  ends_no_room e l = rw (e, lt-ltb (length xs) n l) (refl, refl)

  pub ends_filled : (out : List A) → v ≡ accepted → n ≤ length xs → out ≡ filled f 0 n xs → Ends (Ok n) out
  ends_filled out e l p = rw (room_number v n xs e l) (refl, p)

  -- what is written is what a list of just n places holds then
  pub ends_front : (z : A) → v ≡ accepted → n ≤ length xs → let just = replicate n z in
      take n (written f (unless v (room_for n xs)) xs) ≡ written f (unless v (room_for n just)) just
  ends_front z e l =
      let size : length (replicate n z) ≡ n = length-replicate n z in
      rw (room_number v n xs e l, room_number v n (replicate n z) e (omega arith))
      (filled-take f 0 n n xs (omega arith) ∙ filled_whole f n (take n xs) (replicate n z) (length-take-le n xs l) size)

-- ---- verdicts
-- a refusal is no value
pub refused_not_ok : {A : Type 0} {refusal : Refusal} {a : A} → Err refusal ≡ Ok a → ⊥
refused_not_ok e = search rules

pub unless_at_most : (v : Verdict) (m : ℕ) (rest : Answer) → (v ≡ accepted → AtMost m rest) → AtMost m (unless v rest)
unless_at_most (Ok _) m rest h = h refl
unless_at_most (Err refusal) m rest h = tt

-- accepted, so the test does not hold and the rest is accepted
pub refuse_accepted : (test : Bool) (refusal : Refusal) (rest : Verdict) → refuse test refusal rest ≡ accepted → T (not test) × (rest ≡ accepted)
refuse_accepted true refusal rest e = absurd (refused_not_ok e)
refuse_accepted false refusal rest e = (tt, e)

-- neither of two verdicts is a fault
pub unless_accepted : (v rest : Verdict) → unless v rest ≡ accepted → (v ≡ accepted) × (rest ≡ accepted)
unless_accepted (Ok _) rest e = (refl, e)
unless_accepted (Err refusal) rest e = absurd (refused_not_ok e)

-- ---- tests
-- two numbers that do not differ
pub no_difference : (m n : ℕ) → T (not (not (eqb m n))) → m ≡ n
no_difference m n t = eqb→eq m n (T_not-not (eqb m n) t)

-- ---- ranges
-- what is in a range is not outside it
pub not_outside : (low high x : ℕ) → (low ≤ x) × (x ≤ high) → outside low high x ≡ false
not_outside low high x h = simp (le-ltb x low h.0, le-ltb high x h.1)

-- what is not outside a range is in it
pub inside : (low high x : ℕ) → T (not (outside low high x)) → (low ≤ x) × (x ≤ high)
inside low high x t =
    let n = or_no (ltb x low) (ltb high x) t in
    (nltb→le x low n.0, nltb→le high x n.1)

-- the same of the flag that a function answered
pub not_outside_in : (low high x : ℕ) → outside low high x ≡ false → (low ≤ x) × (x ≤ high)
not_outside_in low high x e = inside low high x (subst (λ (t : Bool). T (not t)) (sym e) tt)

-- of both heights
pub heights_in :
    (e o : ℕ) → eye_or_object_outside e o ≡ false → ((1 ≤ e) × (e ≤ greatest_height)) × ((1 ≤ o) × (o ≤ greatest_height))
heights_in e o p =
    let n = or_no (outside 1 greatest_height e) (outside 1 greatest_height o) (subst (λ (t : Bool). T (not t)) (sym p) tt) in
    (inside 1 greatest_height e n.0, inside 1 greatest_height o n.1)

pub heights_not_outside :
    (e o : ℕ) → (1 ≤ e) × (e ≤ greatest_height) → (1 ≤ o) × (o ≤ greatest_height) → eye_or_object_outside e o ≡ false
heights_not_outside e o p q = simp (not_outside 1 greatest_height e p, not_outside 1 greatest_height o q)

-- of a signed number
pub inside_ℤ : (low high z : ℤ) → T (not (outside_ℤ low high z)) → (low ≤ℤ z) × (z ≤ℤ high)
inside_ℤ low high z t =
    let n = or_no (lt_z z low) (lt_z high z) t in
    (lt_z_no n.0, lt_z_no n.1)

-- ---- grades
-- a number that is no less than another is not below it
not_below : {x y : ℤ} → x ≤ℤ y → lt_z y x ≡ false
not_below {x} {y} h = go (lt_z y x) refl
  where
    go : (t : Bool) → lt_z y x ≡ t → t ≡ false
    go true e = clash_ℤ (lt_z_yes (subst T (sym e) tt)) h
    go false e = refl

-- a grade in its range
abbrev pub GradeIn : ℤ → Type 0
GradeIn g = (neg_ℤ (pos greatest_grade) ≤ℤ g) × (g ≤ℤ pos greatest_grade)

pub grade_inside : (g : ℤ) → T (not (grade_outside g)) → GradeIn g
grade_inside g = inside_ℤ (neg_ℤ (pos greatest_grade)) (pos greatest_grade) g

-- the same of the flag that a function answered
pub grade_in : (g : ℤ) → grade_outside g ≡ false → GradeIn g
grade_in g e = grade_inside g (subst (λ (t : Bool). T (not t)) (sym e) tt)

-- a grade in its range is not outside it
pub grade_not_outside : (g : ℤ) → GradeIn g → grade_outside g ≡ false
grade_not_outside g h = simp (not_below h.0, not_below h.1)
