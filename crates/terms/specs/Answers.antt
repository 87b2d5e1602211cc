-- docs/RULES.md, "What an operation answers": how a definition says an answer: tests in their order, each with its refusal, and then the value.
use Rattle.std.specs.Prelude.{ℕ, Bool, cond, ◌||◌, List, ltb, ℤ, pos, neg_ℤ, length, Result, Ok, Err}
use Rattle.std.specs.Result.{result_unwrap_or}
use Rattle.std.specs.Int.Signed.{lt_z}
use Rattle.whole.specs.Fill.{filled}
use Rattle.terms.specs.Limits.{greatest_grade, greatest_list, greatest_height}
use Rattle.terms.specs.Refusals.{number}
use Rattle.terms.specs.declared.Refusal.{Refusal}
use Rattle.terms.specs.declared.Refusal.TheVariants.{NoRoom}

-- x is not low to high
abbrev pub outside : ℕ → ℕ → ℕ → Bool
outside low high x = ltb x low || ltb high x

-- a list of heights or marks is empty or longer than 100,001
abbrev pub list_outside : ℕ → Bool
list_outside n = outside 1 greatest_list n

-- the height of the eye or that of the object is not 1 to 50,000
abbrev pub eye_or_object_outside : ℕ → ℕ → Bool
eye_or_object_outside e o = outside 1 greatest_height e || outside 1 greatest_height o

-- z is not low to high
abbrev pub outside_ℤ : ℤ → ℤ → ℤ → Bool
outside_ℤ low high z = lt_z z low || lt_z high z

-- a grade is not −1,500 to 1,500
abbrev pub grade_outside : ℤ → Bool
grade_outside g = outside_ℤ (neg_ℤ (pos greatest_grade)) (pos greatest_grade) g

-- the value, or why it is refused
abbrev pub Answer : Type 0
Answer = Result ℕ Refusal

-- accepted, or the first fault
abbrev pub Verdict : Type 0
Verdict = Result (Unit {0}) Refusal

abbrev pub accepted : Verdict
accepted = Ok tt

-- where the test holds, so refused; else as the rest says: the first test that holds gives the fault of a verdict
abbrev pub refuse : {A : Type 0} → Bool → Refusal → Result A Refusal → Result A Refusal
refuse test refusal rest = cond test (Err refusal) rest

-- refused by a verdict's fault; else as the rest says
abbrev pub unless : {A : Type 0} → Verdict → Result A Refusal → Result A Refusal
unless (Ok _) rest = rest
unless (Err refusal) rest = Err refusal

-- the same of a lent list: as it was where there is a fault; else as the rest says
abbrev pub kept_unless : {A : Type 0} → Verdict → List A → List A → List A
kept_unless (Ok _) rest list = rest
kept_unless (Err refusal) rest list = list

-- refused 14 where a lent list has fewer than n places; else n, the number of places that are written
abbrev pub room_for : {A : Type 0} → ℕ → List A → Answer
room_for n list = refuse (ltb (length list) n) NoRoom (Ok n)

-- what a lent list holds at the end where f is written from its place 0 on: as many places as the answer says hold f of
-- their index, the others stay; where the answer is a refusal all stay
abbrev pub written : {A : Type 0} → (ℕ → A) → Answer → List A → List A
written f (Ok n) xs = filled f 0 n xs
written f (Err refusal) xs = xs

-- the value of an answer, 0 for a refusal
abbrev pub value_or_zero : Answer → ℕ
value_or_zero answer = result_unwrap_or answer 0

-- the answer as the van's program gets it, a refusal being minus its number
abbrev pub signed : Answer → ℤ
signed (Ok n) = pos n
signed (Err refusal) = neg_ℤ (pos (number refusal))
