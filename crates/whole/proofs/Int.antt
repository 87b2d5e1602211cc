-- Whole numbers by the naturals, which is what `omega` reads.
-- A whole number is a difference p − n of naturals, and `Is z` holds such a pair. The pair of a sum, an opposite or a
-- product is made of those of its parts: `search reps` builds it for an expression whose variables have theirs by
-- `let x = var z in`. `le_by`, `lt_by` and `eq_by` prove an order or an equation from that of the pairs; `le_to` and `lt_to`
-- lead an order back.
use mathlib.Core.Path.{◌≡◌, refl, ap}
use mathlib.Core.Bool.{Bool, true, false, not, cond}
use Prim.Native.Nat.{ℕ, zero, suc, ◌+◌, ◌*◌, ◌-◌, ◌≤◌, ◌<◌}
use native.Mathlib.Omega.{arith}
use lib.Dec.{T, ltb, leb→le, le→leb, lt→ltb, ltb→lt, nltb→le}
use lib.IntN.{ℤ, pos, negsuc, neg_ℤ, sub_ℕ, nat_abs, ◌+ℤ◌, ◌*ℤ◌}
use lib.Signed.{◌≤ℤ◌, ◌<ℤ◌, le_z, lt_z, non_neg}

-- ---- the part above zero and the part below
abbrev pub up : ℤ → ℕ
up (pos n) = n
up (negsuc n) = 0

abbrev pub dn : ℤ → ℕ
dn (pos n) = 0
dn (negsuc n) = suc n

pub parts_nat_abs : (z : ℤ) → up z + dn z ≡ nat_abs z
parts_nat_abs (pos n) = omega arith
parts_nat_abs (negsuc n) = omega arith

up_neg : (z : ℤ) → up (neg_ℤ z) ≡ dn z
up_neg (pos zero) = refl
up_neg (pos (suc n)) = refl
up_neg (negsuc n) = refl

dn_neg : (z : ℤ) → dn (neg_ℤ z) ≡ up z
dn_neg (pos zero) = refl
dn_neg (pos (suc n)) = refl
dn_neg (negsuc n) = refl

-- by the test that `sub_ℕ` makes
parts_cond : (c : Bool) (a b : ℕ) → (T c → a < b) → (T (not c) → b ≤ a) →
    up (cond c (negsuc (b - suc a)) (pos (a - b))) + b ≡ a + dn (cond c (negsuc (b - suc a)) (pos (a - b)))
parts_cond true a b f g = let h = f tt in omega arith
parts_cond false a b f g = let h = g tt in omega arith

parts_subℕ : (a b : ℕ) → up (sub_ℕ a b) + b ≡ a + dn (sub_ℕ a b)
parts_subℕ a b = parts_cond (ltb a b) a b (ltb→lt a b) (nltb→le a b)

parts_add : (x y : ℤ) → up (x +ℤ y) + (dn x + dn y) ≡ up x + up y + dn (x +ℤ y)
parts_add (pos a) (pos b) = omega arith
parts_add (pos a) (negsuc b) = omega (arith, parts_subℕ a (suc b))
parts_add (negsuc a) (pos b) = omega (arith, parts_subℕ b (suc a))
parts_add (negsuc a) (negsuc b) = omega arith

parts_mul : (x y : ℤ) → up (x *ℤ y) + (up x * dn y + dn x * up y) ≡ up x * up y + dn x * dn y + dn (x *ℤ y)
parts_mul (pos a) (pos b) = omega arith
parts_mul (pos a) (negsuc b) = omega (arith, up_neg (pos (a * suc b)), dn_neg (pos (a * suc b)))
parts_mul (negsuc a) (pos b) = omega (arith, up_neg (pos (suc a * b)), dn_neg (pos (suc a * b)))
parts_mul (negsuc a) (negsuc b) = omega arith

-- ---- z is p − n, for two naturals that need not be the least
pub record Is (z : ℤ) : Type 0 where
  pub p : ℕ
  pub n : ℕ
  pub ok : up z + n ≡ p + dn z

pub add_ok : (x y : ℤ) (p n q m : ℕ) → up x + n ≡ p + dn x → up y + m ≡ q + dn y →
    up (x +ℤ y) + (n + m) ≡ p + q + dn (x +ℤ y)
add_ok x y p n q m e f = omega (arith, parts_add x y)

pub neg_ok : (x : ℤ) (p n : ℕ) → up x + n ≡ p + dn x → up (neg_ℤ x) + p ≡ n + dn (neg_ℤ x)
neg_ok x p n e = omega (arith, up_neg x, dn_neg x)

pub mul_ok : (x y : ℤ) (p n q m : ℕ) → up x + n ≡ p + dn x → up y + m ≡ q + dn y →
    up (x *ℤ y) + (p * m + n * q) ≡ p * q + n * m + dn (x *ℤ y)
mul_ok x y p n q m e f =
    let a = ap (λ (t : ℕ). t * up y) e in let b = ap (λ (t : ℕ). t * dn y) e in
    let c = ap (λ (t : ℕ). p * t) f in let d = ap (λ (t : ℕ). n * t) f in
    omega (arith, parts_mul x y)

pub by_ok : (x : ℤ) (p n k : ℕ) → up x + n ≡ p + dn x → up (x *ℤ pos k) + n * k ≡ p * k + dn (x *ℤ pos k)
by_ok x p n k e = omega (arith, mul_ok x (pos k) p n k 0 e refl)

-- where p is no less than n, z is a natural number
pub natural_is : (z : ℤ) (i : Is z) → i.n ≤ i.p → T (non_neg z) × (nat_abs z + i.n ≡ i.p)
natural_is (pos k) i h = (tt, omega (arith, i.ok))
natural_is (negsuc k) i h = absurd (omega (arith, i.ok))

-- a variable
abbrev pub var : (z : ℤ) → Is z
var z = record { p = up z; n = dn z; ok = refl }

-- a natural
abbrev pub nat : (k : ℕ) → Is (pos k)
nat k = record { p = k; n = 0; ok = refl }

abbrev pub add : {x y : ℤ} → Is x → Is y → Is (x +ℤ y)
add {x} {y} a b = record {
  p = a.p + b.p;
  n = a.n + b.n;
  ok = add_ok x y a.p a.n b.p b.n a.ok b.ok;
}

abbrev pub neg : {x : ℤ} → Is x → Is (neg_ℤ x)
neg {x} a = record { p = a.n; n = a.p; ok = neg_ok x a.p a.n a.ok }

-- times a natural: half as many products as `mul`
abbrev pub by : {x : ℤ} → Is x → (k : ℕ) → Is (x *ℤ pos k)
by {x} a k = record { p = a.p * k; n = a.n * k; ok = by_ok x a.p a.n k a.ok }

abbrev pub mul : {x y : ℤ} → Is x → Is y → Is (x *ℤ y)
mul {x} {y} a b = record {
  p = a.p * b.p + a.n * b.n;
  n = a.p * b.n + a.n * b.p;
  ok = mul_ok x y a.p a.n b.p b.n a.ok b.ok;
}

pub ruleset reps = (add, neg, by, mul, nat)

-- ---- orders and equations of the parts
le_parts : (x y : ℤ) → up x + dn y ≤ up y + dn x → T (le_z x y)
le_parts (pos a) (pos b) h = le→leb a b (omega arith)
le_parts (pos a) (negsuc b) h = omega arith
le_parts (negsuc a) (pos b) h = tt
le_parts (negsuc a) (negsuc b) h = le→leb b a (omega arith)

parts_le : (x y : ℤ) → T (le_z x y) → up x + dn y ≤ up y + dn x
parts_le (pos a) (pos b) h = omega (arith, leb→le a b h)
parts_le (pos a) (negsuc b) h = absurd h
parts_le (negsuc a) (pos b) h = omega arith
parts_le (negsuc a) (negsuc b) h = omega (arith, leb→le b a h)

lt_parts : (x y : ℤ) → up x + dn y < up y + dn x → T (lt_z x y)
lt_parts (pos a) (pos b) h = lt→ltb a b (omega arith)
lt_parts (pos a) (negsuc b) h = omega arith
lt_parts (negsuc a) (pos b) h = tt
lt_parts (negsuc a) (negsuc b) h = lt→ltb b a (omega arith)

parts_lt : (x y : ℤ) → T (lt_z x y) → up x + dn y < up y + dn x
parts_lt (pos a) (pos b) h = omega (arith, ltb→lt a b h)
parts_lt (pos a) (negsuc b) h = absurd h
parts_lt (negsuc a) (pos b) h = omega arith
parts_lt (negsuc a) (negsuc b) h = omega (arith, ltb→lt b a h)

eq_parts : (x y : ℤ) → up x + dn y ≡ up y + dn x → x ≡ y
eq_parts (pos a) (pos b) h = ap pos (omega arith)
eq_parts (pos a) (negsuc b) h = absurd (omega arith)
eq_parts (negsuc a) (pos b) h = absurd (omega arith)
eq_parts (negsuc a) (negsuc b) h = ap negsuc (omega arith)

-- ---- from a fact about the pairs
pub le_by : {x y : ℤ} (a : Is x) (b : Is y) → a.p + b.n ≤ b.p + a.n → x ≤ℤ y
le_by {x} {y} a b h = record { le = le_parts x y (omega (arith, a.ok, b.ok)) }

pub lt_by : {x y : ℤ} (a : Is x) (b : Is y) → a.p + b.n < b.p + a.n → x <ℤ y
lt_by {x} {y} a b h = record { lt = lt_parts x y (omega (arith, a.ok, b.ok)) }

pub eq_by : {x y : ℤ} (a : Is x) (b : Is y) → a.p + b.n ≡ b.p + a.n → x ≡ y
eq_by {x} {y} a b h = eq_parts x y (omega (arith, a.ok, b.ok))

-- ---- and to it
pub le_to : {x y : ℤ} → x ≤ℤ y → (a : Is x) (b : Is y) → a.p + b.n ≤ b.p + a.n
le_to {x} {y} h a b = omega (arith, parts_le x y h.le, a.ok, b.ok)

pub lt_to : {x y : ℤ} → x <ℤ y → (a : Is x) (b : Is y) → a.p + b.n < b.p + a.n
lt_to {x} {y} h a b = omega (arith, parts_lt x y h.lt, a.ok, b.ok)
