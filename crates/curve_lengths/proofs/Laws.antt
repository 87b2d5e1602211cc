-- Laws of the definitions of crest and sag lengths: what the squared form means, that adequacy never falls away as the length
-- grows, and that an answer is the least even length that is long enough, refused 18 exactly where none is adequate. What is said of
-- adequacy holds for any Q = u + √w, and what is said of answers for any test that a longer curve keeps; crests and sags follow.
use Prim.Native.Nat.{ℕ, zero, suc, ◌+◌, ◌*◌, ◌-◌, ◌/◌, ◌%◌, ◌≤◌, ◌<◌, zero-le}
use native.Mathlib.Nat.{mul-le-mul, mul-le-mul_left, mul-le-mul_right, mul-sub, mul-mul-mul_comm, mul-zero}
use native.Mathlib.Omega.{arith}
use mathlib.Core.Path.{◌≡◌, refl, sym, ap, subst, ◌∙◌}
use mathlib.Core.Bool.{Bool, true, false, cond, ◌||◌}
use mathlib.Core.Logic.{◌↔◌, ◌⊎◌, inl, inr, ⊎_elim}
use mir.Facts.{and_yes, yes_and}
use borrow.Author.Tests.{le-leb, lt-leb, le-ltb, leb-true, leb-false, ltb-true, ltb-false}
use lib.Dec.{T, leb, ltb, leb→le, le→leb}
use lib.IntN.{pos, negsuc, ◌-ℤ◌, ◌*ℤ◌, sub_ℕ}
use lib.Signed.{◌≤ℤ◌}
use Rattle.terms.specs.Answers.{outside, eye_or_object_outside, refuse, unless, Answer, Verdict, accepted}
use Rattle.terms.specs.Limits.{least_speed, greatest_speed, greatest_grade_change, greatest_sight_distance, greatest_answered_length}
use Rattle.terms.specs.declared.Refusal.{Refusal}
use Rattle.terms.specs.declared.Refusal.TheVariants.{SpeedOutside, GradeChangeOutside, SightDistanceOutside, HeightOutside, NoLength}
use Rattle.terms.proofs.Laws.{AtMost, refuse_at_most, unless_at_most, not_outside, not_outside_in, heights_not_outside, heights_in}
use Rattle.std.specs.Prelude.{Ok, Err}
use Rattle.curve_lengths.specs.Lengths.{within_root, adequate, crest_adequate, sag_adequate, reaches_minimum, long_enough, least_even, least_length, length_verdict, crest_length, sag_length}
use Rattle.curve_lengths.specs.NeverFallsAway.{KeptByLonger, NeverFallsAway}
use Rattle.curve_lengths.specs.NoneAdequate.{InRange, HeightsInRange, NoEvenLength, NoneAdequate}
use Rattle.curve_lengths.specs.SagInequalities.{SagInequalities}

-- ---- the root

sign_in_square : (c : Bool) (x y z : ℕ) → leb x y ≡ c → (c || leb ((x - y) * (x - y)) z) ≡ leb ((x - y) * (x - y)) z
sign_in_square true x y z p = let q : x - y ≡ 0 = omega (arith, leb-true x y p) in rw q (sym (le-leb 0 z zero-le))
sign_in_square false x y z p = refl

-- with a difference that stops at 0 the sign needs no test of its own
pub within_root_square : (x y z : ℕ) → within_root x y z ≡ leb ((x - y) * (x - y)) z
unfolding within_root
within_root_square x y z = sign_in_square (leb x y) x y z refl

-- so the test is one inequality of naturals, either way
within_root_to : (x y z : ℕ) → T (within_root x y z) → (x - y) * (x - y) ≤ z
within_root_to x y z t = leb→le _ _ (rw within_root_square at t)

within_root_by : (x y z : ℕ) → (x - y) * (x - y) ≤ z → T (within_root x y z)
within_root_by x y z h = rw within_root_square (le→leb _ _ h)

-- the difference of two naturals, by its sign
pos_sub : (x y : ℕ) → pos x -ℤ pos y ≡ sub_ℕ x y
pos_sub x zero = simp (le-ltb x 0 zero-le) (ap pos (omega arith))
pos_sub x (suc y) = refl

within_root_is_cases :
    (c : Bool) (x y z : ℕ) → ltb x y ≡ c →
    let d = cond c (negsuc (y - suc x)) (pos (x - y)) in T (within_root x y z) ↔ ((d ≤ℤ pos 0) ⊎ ((d *ℤ d) ≤ℤ pos z))
within_root_is_cases true x y z p =
    let q : x - y ≡ 0 = omega (arith, ltb-true x y p) in
    ((λ t. inl (record { le = tt })), λ h. within_root_by x y z (rw q zero-le))
within_root_is_cases false x y z p = (
  (λ t. inr (record { le = le→leb _ _ (within_root_to x y z t) })),
  ⊎_elim
      (λ h. let q : x - y ≡ 0 = omega (arith, leb→le (x - y) 0 h.le) in within_root_by x y z (rw q zero-le))
      (λ h. within_root_by x y z (leb→le _ _ h.le)),
)

-- the squared form is X ≤ √z for X = x − y, put without the root
pub within_root_is : (x y z : ℕ) → let d = pos x -ℤ pos y in T (within_root x y z) ↔ ((d ≤ℤ pos 0) ⊎ ((d *ℤ d) ≤ℤ pos z))
within_root_is x y z = rw (pos_sub x y) (within_root_is_cases (ltb x y) x y z refl)

-- a smaller x, a larger y or a larger z keeps it
pub within_root_mono :
    (x y z : ℕ) {x' y' z' : ℕ} → x' ≤ x → y ≤ y' → z ≤ z' →
    T (within_root x y z) → T (within_root x' y' z')
within_root_mono x y z {x'} {y'} {z'} p q r t =
    let d : x' - y' ≤ x - y = omega arith in
    within_root_by x' y' z' (omega (arith, mul-le-mul d d, within_root_to x y z t))

-- both sides may be multiplied by k
pub within_root_scale : (k x y z : ℕ) → T (within_root x y z) → T (within_root (k * x) (k * y) (k * k * z))
within_root_scale k x y z t =
    within_root_by (k * x) (k * y) (k * k * z)
    (rw (← mul-sub, mul-mul-mul_comm) (mul-le-mul_left (k * k) (within_root_to x y z t)))

root_zero_cases : (c : Bool) (x y : ℕ) → leb x y ≡ c → (c || leb ((x - y) * (x - y)) 0) ≡ c
root_zero_cases true x y p = refl
root_zero_cases false x y p =
    let one : 1 ≤ x - y = omega (arith, leb-false x y p) in
    lt-leb ((x - y) * (x - y)) 0 (omega (arith, mul-le-mul one one))

-- a root of 0 changes nothing
pub within_root_zero : (x y : ℕ) → within_root x y 0 ≡ leb x y
unfolding within_root
within_root_zero x y = root_zero_cases (leb x y) x y refl

-- ---- adequacy

-- by where the two lengths lie: both from the sight distance on, either side of it, or both below it
adequate_mono_cases :
    (a s u w l m : ℕ) (c d : Bool) → l ≤ m → leb s l ≡ c → leb s m ≡ d →
    T (cond c (within_root (a * (s * s)) (l * u) (l * l * w)) (within_root (a * (2 * s - l)) u w)) →
    T (cond d (within_root (a * (s * s)) (m * u) (m * m * w)) (within_root (a * (2 * s - m)) u w))
adequate_mono_cases a s u w l m true true h p q t =
    within_root_mono (a * (s * s)) (l * u) (l * l * w) (omega arith) (mul-le-mul_right u h) (mul-le-mul_right w (mul-le-mul h h)) t
adequate_mono_cases a s u w l m true false h p q t = absurd (omega (arith, leb-true s l p, leb-false s m q))
adequate_mono_cases a s u w l m false true h p q t =
    let g : s ≤ m = leb-true s m q in
    let k : s ≤ 2 * s - l = omega (arith, leb-false s l p) in
    within_root_mono (s * (a * s)) (s * u) (s * s * w) (omega arith) (mul-le-mul_right u g) (mul-le-mul_right w (mul-le-mul g g))
    (within_root_scale s (a * s) u w (within_root_mono (a * (2 * s - l)) u w (mul-le-mul_left a k) (omega arith) (omega arith) t))
adequate_mono_cases a s u w l m false false h p q t =
    let k : 2 * s - m ≤ 2 * s - l = omega arith in
    within_root_mono (a * (2 * s - l)) u w (mul-le-mul_left a k) (omega arith) (omega arith) t

-- a longer curve is adequate where a shorter one is, whatever Q = u + √w
adequate_mono : (a s u w : ℕ) → KeptByLonger (adequate a s u w)
unfolding adequate
adequate_mono a s u w l m h t = adequate_mono_cases a s u w l m (leb s l) (leb s m) h refl refl t

-- so with a crest's Q, and with a sag's
pub never_falls_away : NeverFallsAway
never_falls_away =
    record { any = adequate_mono; crest = λ a s e o. adequate_mono a s _ _; sag = λ a s. adequate_mono a s _ _ }

-- for any whole Q, by the side of the sight distance that the length is on
whole_adequate_cases :
    (c : Bool) (a s q l : ℕ) → leb s l ≡ c →
    T (cond c (within_root (a * (s * s)) (l * q) (l * l * 0)) (within_root (a * (2 * s - l)) q 0))
    ↔ (((s ≤ l) × (a * (s * s) ≤ l * q)) ⊎ ((l < s) × (a * (2 * s - l) ≤ q)))
whole_adequate_cases true a s q l p =
    let h : s ≤ l = leb-true s l p in
    rw (mul-zero (l * l), within_root_zero) (
      (λ t. inl (h, leb→le _ _ t)),
      ⊎_elim (λ b. le→leb _ _ b.1) (λ b. absurd (omega (arith, h, b.0))),
    )
whole_adequate_cases false a s q l p =
    let h : l < s = leb-false s l p in
    rw within_root_zero (
      (λ t. inr (h, leb→le _ _ t)),
      ⊎_elim (λ b. absurd (omega (arith, h, b.0))) (λ b. le→leb _ _ b.1),
    )

-- a sag's adequacy is two plain inequalities
pub sag_inequalities : SagInequalities
unfolding adequate
sag_inequalities a s l = whole_adequate_cases (leb s l) a s _ l refl

-- ---- the minimum

-- a longer curve reaches it where a shorter one does
reaches_minimum_mono : (v : ℕ) → KeptByLonger (reaches_minimum v)
unfolding reaches_minimum
reaches_minimum_mono v l m h t = le→leb (3 * v) (5 * m) (omega (arith, leb→le (3 * v) (5 * l) t))

-- the minimum for any speed that is not refused is within 2,000 m
reaches_minimum_greatest : (v : ℕ) → v ≤ greatest_speed → T (reaches_minimum v greatest_answered_length)
unfolding reaches_minimum
reaches_minimum_greatest v h = le→leb (3 * v) (5 * greatest_answered_length) (omega arith)

-- long enough is both
pub long_enough_is : (v : ℕ) (test : ℕ → Bool) (l : ℕ) → T (long_enough v test l) ↔ (T (reaches_minimum v l) × T (test l))
unfolding long_enough
long_enough_is v test l =
    let p = reaches_minimum v l in
    (and_yes p (test l), λ b. yes_and p (test l) b.0 b.1)

module _ (v : ℕ) (test : ℕ → Bool) (kept : KeptByLonger test) where
  -- a longer curve is long enough where a shorter one is
  pub long_enough_mono : KeptByLonger (long_enough v test)
  long_enough_mono l m h t =
      let b = (long_enough_is v test l).0 t in
      (long_enough_is v test m).1 (reaches_minimum_mono v l m h b.0, kept l m h b.1)

  -- where a length up to 2,000 m is adequate, 2,000 m are long enough: so the minimum is never the cause of 18
  long_enough_greatest :
      (l : ℕ) → v ≤ greatest_speed → l ≤ greatest_answered_length → T (test l) → T (long_enough v test greatest_answered_length)
  long_enough_greatest l h k t =
      (long_enough_is v test greatest_answered_length).1 (reaches_minimum_greatest v h, kept l greatest_answered_length k t)

-- ---- the least even length

-- r = l + 2 k passes the test for some k below n, and l + 2 j fails for each j below k
pub record First (test : ℕ → Bool) (l n r : ℕ) : Type 0 where
  pub index : ℕ
  pub within : index < n
  pub place : r ≡ l + 2 * index
  pub passes : T (test r)
  pub before : (j : ℕ) → j < index → T (test (l + 2 * j)) → ⊥

-- what an answer says of the lengths l, l + 2, …, l + 2 (n − 1): a number is the first that passes, 18 that none does
abbrev pub FirstEven : (ℕ → Bool) → ℕ → ℕ → Answer → Type 0
FirstEven test l n (Ok r) = First test l n r
FirstEven test l n (Err k) = (k ≡ NoLength) × ((j : ℕ) → j < n → T (test (l + 2 * j)) → ⊥)

module _ (test : ℕ → Bool) where
  -- a failure at l before those from l + 2 on
  fails_from :
      (l n : ℕ) → test l ≡ false → ((j : ℕ) → j < n → T (test (l + 2 + 2 * j)) → ⊥) →
      (j : ℕ) → j < suc n → T (test (l + 2 * j)) → ⊥
  fails_from l n p f zero h t = let q : l + 2 * 0 ≡ l = omega arith in rw (q, p) at t
  fails_from l n p f (suc j) h t = f j (omega arith) (subst (λ (x : ℕ). T (test x)) (omega arith) t)

  -- one length more in front
  first_even_step :
      (c : Bool) (x : Answer) (l n : ℕ) → test l ≡ c → FirstEven test (l + 2) n x →
      FirstEven test l (suc n) (cond c (Ok l) x)
  first_even_step true x l n p i =
      record { index = 0; within = omega arith; place = omega arith; passes = rw p tt; before = λ j h t. omega arith }
  first_even_step false (Ok r) l n p i =
      record {
        index = suc i.index;
        within = omega arith;
        place = omega arith;
        passes = i.passes;
        before = fails_from l i.index p i.before;
      }
  first_even_step false (Err k) l n p i = (i.0, fails_from l n p i.1)

  -- the answer is the first length that passes, or 18 where none does
  least_even_is : (l n : ℕ) → FirstEven test l n (least_even test l n)
  unfolding least_even
  least_even_is l zero = (refl, λ j h t. omega arith)
  least_even_is l (suc n) = first_even_step (test l) (least_even test (l + 2) n) l n refl (least_even_is (l + 2) n)

  -- two answers are one: neither is before the other
  no_earlier : (l n r q : ℕ) (f : First test l n r) (g : First test l n q) → f.index < g.index → ⊥
  no_earlier l n r q f g h = g.before f.index h (rw f.place at f.passes)

  first_even_unique : (l n : ℕ) (x y : Answer) → FirstEven test l n x → FirstEven test l n y → x ≡ y
  first_even_unique l n (Ok r) (Ok q) f g =
      ap Ok (omega (arith, no_earlier l n r q f g, no_earlier l n q r g f))
  first_even_unique l n (Ok r) (Err k) f g = absurd (g.1 f.index f.within (rw f.place at f.passes))
  first_even_unique l n (Err k) (Ok r) f g = absurd (f.1 g.index g.within (rw g.place at g.passes))
  first_even_unique l n (Err k) (Err j) f g = ap Err (f.0 ∙ sym g.0)

  -- and no other answer is so
  least_even_only : (l n : ℕ) (x : Answer) → FirstEven test l n x → x ≡ least_even test l n
  least_even_only l n x f = first_even_unique l n x (least_even test l n) f (least_even_is l n)

-- r is even, at most 2,000 and passes the test, and no lesser even length does
pub record Least (test : ℕ → Bool) (r : ℕ) : Type 0 where
  pub even : r % 2 ≡ 0
  pub within : r ≤ greatest_answered_length
  pub passes : T (test r)
  pub least : (m : ℕ) → m % 2 ≡ 0 → m < r → T (test m) → ⊥

-- what an answer says of the even lengths from 0 to 2,000: a number is the least that passes, 18 that none does
abbrev LeastOf : (ℕ → Bool) → Answer → Type 0
LeastOf test (Ok r) = Least test r
LeastOf test (Err k) = (k ≡ NoLength) × NoEvenLength test

module _ (test : ℕ → Bool) where
  first_even_least : (x : Answer) → FirstEven test 0 (greatest_answered_length / 2 + 1) x → LeastOf test x
  first_even_least (Ok r) f =
      record {
        even = omega arith;
        within = omega arith;
        passes = f.passes;
        least = λ m q h t. f.before (m / 2) (omega arith) (subst (λ (x : ℕ). T (test x)) (omega arith) t);
      }
  first_even_least (Err k) f =
      (f.0, λ l q h t. f.1 (l / 2) (omega arith) (subst (λ (x : ℕ). T (test x)) (omega arith) t))

  -- the answer says so
  least_length_is : (x : Answer) → least_length test ≡ x → LeastOf test x
  least_length_is x p =
      subst (LeastOf test) p (first_even_least (least_length test) (least_even_is test 0 (greatest_answered_length / 2 + 1)))

  -- and no other answer does
  pub least_length_only : (x : Answer) → FirstEven test 0 (greatest_answered_length / 2 + 1) x → x ≡ least_length test
  least_length_only = least_even_only test 0 (greatest_answered_length / 2 + 1)

  least_of_at_most : (x : Answer) → LeastOf test x → AtMost greatest_answered_length x
  least_of_at_most (Ok r) f = f.within
  least_of_at_most (Err k) f = tt

-- where a length has to be long enough, 18 says that no even one up to 2,000 is adequate
least_length_none :
    (v : ℕ) (test : ℕ → Bool) → KeptByLonger test → v ≤ greatest_speed →
    (least_length (long_enough v test) ≡ Err NoLength) ↔ NoEvenLength test
least_length_none v test kept h =
    let enough = long_enough v test in (
      (λ p l q k t.
          (least_length_is enough (Err NoLength) p).1 greatest_answered_length refl (omega arith)
          (long_enough_greatest v test kept l h k t)),
      λ f. sym (least_length_only enough (Err NoLength)
          (refl, λ j k t. f (0 + 2 * j) (omega arith) (omega arith) ((long_enough_is v test (0 + 2 * j)).0 t).1)),
    )

-- ---- a binary search over half lengths

-- no half length below `low` passes the test, and `high` passes it or is past the last
pub record Searched (test : ℕ → Bool) (low high : ℕ) : Type 0 where
  pub ordered : low ≤ high
  pub within : high ≤ greatest_answered_length / 2 + 1
  pub below : (j : ℕ) → j < low → T (test (2 * j)) → ⊥
  pub found : high ≤ greatest_answered_length / 2 → T (test (2 * high))

-- a test of the middle moves one end: the upper where it passes, and the lower where it fails, since a longer curve passes where a shorter
-- one does
module _ (test : ℕ → Bool) (low high half : ℕ) (i : Searched test low high) where
  pub searched_lower : low ≤ half → half < high → test (2 * half) ≡ true → Searched test low half
  searched_lower h k t = record { ordered = h; within = omega (arith, i.within); below = i.below; found = λ _. rw t tt }

  pub searched_upper : KeptByLonger test → half < high → test (2 * half) ≡ false → Searched test (half + 1) high
  searched_upper kept h t =
      record {
        ordered = omega arith;
        within = i.within;
        found = i.found;
        below = λ j k p. rw t at (kept (2 * j) (2 * half) (omega arith) p);
      }

-- where the ends meet they are the first that passes, or past the last: the answer is by where they are
abbrev pub met_at : ℕ → Answer
met_at high = refuse (ltb (greatest_answered_length / 2) high) NoLength (Ok (2 * high))

searched_met : (c : Bool) (test : ℕ → Bool) (low high : ℕ) → ltb (greatest_answered_length / 2) high ≡ c → Searched test low high →
    high ≤ low → refuse c NoLength (Ok (2 * high)) ≡ least_length test
searched_met true test low high p i h =
    least_length_only test (Err NoLength)
    (refl, λ j l t. i.below j (omega (arith, ltb-true _ _ p)) (subst (λ (x : ℕ). T (test x)) (omega arith) t))
searched_met false test low high p i h =
    least_length_only test (Ok (2 * high))
    (record {
      index = high;
      within = omega (arith, ltb-false _ _ p);
      place = omega arith;
      passes = i.found (ltb-false _ _ p);
      before = λ j l t. i.below j (omega arith) (subst (λ (x : ℕ). T (test x)) (omega arith) t);
    })

-- a search under way, and what it answers once the ends meet
pub record Search (test : ℕ → Bool) (low high : ℕ) : Type 0 where
  pub searched : Searched test low high
  pub met : high ≤ low → met_at high ≡ least_length test

pub search_by : (test : ℕ → Bool) (low high : ℕ) → Searched test low high → Search test low high
search_by test low high i = record { searched = i; met = searched_met _ test low high refl i }

-- ---- the numbers' ranges

-- an answer that is no refusal before 18: a number, or 18
abbrev NoEarlierRefusal : Answer → Type 0
NoEarlierRefusal (Ok r) = Unit {0}
NoEarlierRefusal (Err refusal) = refusal ≡ NoLength

-- such an answer passed each test before 18
refuse_past : (c : Bool) (k : Refusal) (rest : Answer) → (k ≡ NoLength → ⊥) → NoEarlierRefusal (refuse c k rest) → c ≡ false
refuse_past true k rest h d = absurd (h d)
refuse_past false k rest h d = refl

-- so with a verdict's first test; and what the rest of the verdict leaves is such an answer too
verdict_past :
    (c : Bool) (k : Refusal) (x : Verdict) (rest : Answer) → (k ≡ NoLength → ⊥) → NoEarlierRefusal (unless (refuse c k x) rest) →
    (c ≡ false) × NoEarlierRefusal (unless x rest)
verdict_past true k x rest h d = absurd (h d)
verdict_past false k x rest h d = (refl, d)

-- so the three numbers are in their ranges
length-past : (v a s : ℕ) (rest : Answer) → NoEarlierRefusal (unless (length_verdict v a s) rest) → InRange v a s × NoEarlierRefusal rest
unfolding length_verdict
length-past v a s rest d =
    let speed = verdict_past (outside least_speed greatest_speed v) SpeedOutside _ rest (λ e. cc) d in
    let change = verdict_past (outside 1 greatest_grade_change a) GradeChangeOutside _ rest (λ e. cc) speed.1 in
    let sight = verdict_past (outside 1 greatest_sight_distance s) SightDistanceOutside accepted rest (λ e. cc) change.1 in (
      record {
        speed = not_outside_in least_speed greatest_speed v speed.0;
        change = not_outside_in 1 greatest_grade_change a change.0;
        sight = not_outside_in 1 greatest_sight_distance s sight.0;
      },
      sight.1,
    )

-- an accepted verdict says so: behind it any answer may come
pub length_in_range : (v a s : ℕ) → length_verdict v a s ≡ accepted → InRange v a s
length_in_range v a s p =
    (length-past v a s (Ok 0) (subst (λ (x : Verdict). NoEarlierRefusal (unless x (Ok 0))) (sym p) tt)).0

-- and it says no more
length_accepted : (v a s : ℕ) → InRange v a s → length_verdict v a s ≡ accepted
unfolding length_verdict
length_accepted v a s h =
    simp (
      not_outside least_speed greatest_speed v h.speed,
      not_outside 1 greatest_grade_change a h.change,
      not_outside 1 greatest_sight_distance s h.sight,
    )

-- and so with the heights
pub heights_in_range : (e o : ℕ) → eye_or_object_outside e o ≡ false → HeightsInRange e o
heights_in_range e o p = let h = heights_in e o p in record { eye = h.0; object = h.1 }

-- ---- an answer over any test of adequacy

-- where the numbers are in their ranges it is that of the search, and where they are not it is a refusal before 18
pub record Answered (ranges : Type 0) (v : ℕ) (test : ℕ → Bool) (answer : Answer) : Type 0 where
  pub searched : ranges → answer ≡ least_length (long_enough v test)
  pub ranged : NoEarlierRefusal answer → ranges
  pub speed : ranges → v ≤ greatest_speed

module _ (ranges : Type 0) (v : ℕ) (test : ℕ → Bool) (answer : Answer) (i : Answered ranges v test answer) where
  -- so a length that is answered is the least even one up to 2,000 that is long enough
  answered_number : (r : ℕ) → answer ≡ Ok r → Least (long_enough v test) r
  answered_number r p =
      let h = i.ranged (subst NoEarlierRefusal (sym p) tt) in
      least_length_is (long_enough v test) (Ok r) (sym (i.searched h) ∙ p)

  -- and 18 comes from the search, where no even length up to 2,000 is adequate
  answered_none : KeptByLonger test → (answer ≡ Err NoLength) ↔ (ranges × NoEvenLength test)
  answered_none kept =
      let none = least_length_none v test kept in (
        (λ p.
            let h = i.ranged (subst NoEarlierRefusal (sym p) refl) in
            (h, (none (i.speed h)).0 (sym (i.searched h) ∙ p))),
        λ b. i.searched b.0 ∙ (none (i.speed b.0)).1 b.1,
      )

-- ---- crests and sags

pub crest_answered :
    (v a s e o : ℕ) → Answered (InRange v a s × HeightsInRange e o) v (crest_adequate a s e o) (crest_length v a s e o)
unfolding crest_length
crest_answered v a s e o =
    record {
      searched = λ h. rw (length_accepted v a s h.0, heights_not_outside e o h.1.eye h.1.object) refl;
      ranged = λ d.
          let numbers = length-past v a s _ d in
          (numbers.0, heights_in_range e o (refuse_past (eye_or_object_outside e o) HeightOutside _ (λ e. cc) numbers.1));
      speed = λ h. h.0.speed.1;
    }

pub sag_answered : (v a s : ℕ) → Answered (InRange v a s) v (sag_adequate a s) (sag_length v a s)
unfolding sag_length
sag_answered v a s =
    record {
      searched = λ h. rw (length_accepted v a s h) refl;
      ranged = λ d. (length-past v a s _ d).0;
      speed = λ h. h.speed.1;
    }

pub crest_length_number : (v a s e o r : ℕ) → crest_length v a s e o ≡ Ok r → Least (long_enough v (crest_adequate a s e o)) r
crest_length_number v a s e o = answered_number _ v (crest_adequate a s e o) _ (crest_answered v a s e o)

pub sag_length_number : (v a s r : ℕ) → sag_length v a s ≡ Ok r → Least (long_enough v (sag_adequate a s)) r
sag_length_number v a s = answered_number _ v (sag_adequate a s) _ (sag_answered v a s)

pub none_adequate : NoneAdequate
none_adequate =
    record {
      crest = λ v a s e o. answered_none _ v (crest_adequate a s e o) _ (crest_answered v a s e o) (never_falls_away.crest a s e o);
      sag = λ v a s. answered_none _ v (sag_adequate a s) _ (sag_answered v a s) (never_falls_away.sag a s);
    }

-- a crest length is at most 2,000
pub crest_length_at_most : (v a s e o : ℕ) → AtMost greatest_answered_length (crest_length v a s e o)
unfolding crest_length length_verdict
crest_length_at_most v a s e o =
    let test = long_enough v (crest_adequate a s e o) in
    unless_at_most (length_verdict v a s) _ _
    (λ h. refuse_at_most (eye_or_object_outside e o) _ _ _
    (λ t. least_of_at_most test (least_length test) (least_length_is test (least_length test) refl)))
