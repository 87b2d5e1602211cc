-- Laws of the order of whole numbers, and of their sums and products. Each is one of naturals, by proofs/Int.antt.
use mathlib.Core.Path.{◌≡◌}
use Prim.Native.Nat.{ℕ, ◌<◌}
use native.Mathlib.Omega.{arith}
use native.Mathlib.Nat.{mul-le-mul_right, le_of_mul-le-mul_right, lt_of_mul-lt-mul_right}
use lib.IntN.{ℤ, pos, neg_ℤ, ◌+ℤ◌, ◌*ℤ◌, +ℤ_assoc, +ℤ_comm, *ℤ_comm, neg_ℤ-+ℤ, neg_ℤ-neg_ℤ}
use lib.Signed.{◌≤ℤ◌, ◌<ℤ◌}
use Rattle.whole.proofs.Int.{var, nat, add, neg, by, mul, le_by, lt_by, eq_by, le_to, lt_to}

-- ---- the order
pub ≤ℤ_trans : {x y z : ℤ} → x ≤ℤ y → y ≤ℤ z → x ≤ℤ z
≤ℤ_trans {x} {y} {z} h k = le_by (var x) (var z) (omega (arith, le_to h (var x) (var y), le_to k (var y) (var z)))

pub ≤ℤ-<ℤ_trans : {x y z : ℤ} → x ≤ℤ y → y <ℤ z → x <ℤ z
≤ℤ-<ℤ_trans {x} {y} {z} h k = lt_by (var x) (var z) (omega (arith, le_to h (var x) (var y), lt_to k (var y) (var z)))

pub ≤ℤ_antisym : {x y : ℤ} → x ≤ℤ y → y ≤ℤ x → x ≡ y
≤ℤ_antisym {x} {y} h k = eq_by (var x) (var y) (omega (arith, le_to h (var x) (var y), le_to k (var y) (var x)))

pub ≤ℤ_of_< : {x y : ℤ} → x <ℤ y → x ≤ℤ y
≤ℤ_of_< {x} {y} h = le_by (var x) (var y) (omega (arith, lt_to h (var x) (var y)))

-- below the next whole number
pub ≤ℤ_of_<_suc : {x y : ℤ} → x <ℤ (y +ℤ pos 1) → x ≤ℤ y
≤ℤ_of_<_suc {x} {y} h = le_by (var x) (var y) (omega (arith, lt_to h (var x) (add (var y) (nat 1))))

-- ---- sums and multiples keep it, and a multiple gives it back
pub +ℤ_mono : {x y u v : ℤ} → x ≤ℤ y → u ≤ℤ v → (x +ℤ u) ≤ℤ (y +ℤ v)
+ℤ_mono {x} {y} {u} {v} h k =
    le_by (add (var x) (var u)) (add (var y) (var v)) (omega (arith, le_to h (var x) (var y), le_to k (var u) (var v)))

pub *ℤ_mono : (k : ℕ) {x y : ℤ} → x ≤ℤ y → (x *ℤ pos k) ≤ℤ (y *ℤ pos k)
*ℤ_mono k {x} {y} h = le_by (by (var x) k) (by (var y) k) (omega (arith, mul-le-mul_right k (le_to h (var x) (var y))))

pub *ℤ_cancel : (x y : ℤ) {k : ℕ} → 0 < k → (x *ℤ pos k) ≤ℤ (y *ℤ pos k) → x ≤ℤ y
*ℤ_cancel x y {k} l h =
    le_by (var x) (var y) (le_of_mul-le-mul_right {k = k} (omega (arith, le_to h (by (var x) k) (by (var y) k))) l)

pub *ℤ_cancel_< : (x y : ℤ) (k : ℕ) → (x *ℤ pos k) <ℤ (y *ℤ pos k) → x <ℤ y
*ℤ_cancel_< x y k h =
    lt_by (var x) (var y) (lt_of_mul-lt-mul_right k (omega (arith, lt_to h (by (var x) k) (by (var y) k))))

-- ---- the ring: `simp ring` proves any identity of sums and products of variables in which nothing cancels
pub +ℤ_left : (x y z : ℤ) → x +ℤ (y +ℤ z) ≡ y +ℤ (x +ℤ z)
+ℤ_left x y z = eq_by (add (var x) (add (var y) (var z))) (add (var y) (add (var x) (var z))) (omega arith)

pub *ℤ_assoc : (x y z : ℤ) → x *ℤ y *ℤ z ≡ x *ℤ (y *ℤ z)
*ℤ_assoc x y z = eq_by (mul (mul (var x) (var y)) (var z)) (mul (var x) (mul (var y) (var z))) (omega arith)

pub *ℤ_left : (x y z : ℤ) → x *ℤ (y *ℤ z) ≡ y *ℤ (x *ℤ z)
*ℤ_left x y z = eq_by (mul (var x) (mul (var y) (var z))) (mul (var y) (mul (var x) (var z))) (omega arith)

pub *ℤ-+ℤ : (x y z : ℤ) → x *ℤ (y +ℤ z) ≡ x *ℤ y +ℤ x *ℤ z
*ℤ-+ℤ x y z = eq_by (mul (var x) (add (var y) (var z))) (add (mul (var x) (var y)) (mul (var x) (var z))) (omega arith)

pub +ℤ-*ℤ : (x y z : ℤ) → (x +ℤ y) *ℤ z ≡ x *ℤ z +ℤ y *ℤ z
+ℤ-*ℤ x y z = eq_by (mul (add (var x) (var y)) (var z)) (add (mul (var x) (var z)) (mul (var y) (var z))) (omega arith)

pub neg_ℤ-*ℤ : (x y : ℤ) → neg_ℤ x *ℤ y ≡ neg_ℤ (x *ℤ y)
neg_ℤ-*ℤ x y = eq_by (mul (neg (var x)) (var y)) (neg (mul (var x) (var y))) (omega arith)

pub *ℤ-neg_ℤ : (x y : ℤ) → x *ℤ neg_ℤ y ≡ neg_ℤ (x *ℤ y)
*ℤ-neg_ℤ x y = eq_by (mul (var x) (neg (var y))) (neg (mul (var x) (var y))) (omega arith)

pub ruleset ring = (*ℤ_assoc, *ℤ_left, *ℤ_comm, +ℤ_assoc, +ℤ_left, +ℤ_comm, *ℤ-+ℤ, +ℤ-*ℤ, neg_ℤ-*ℤ, *ℤ-neg_ℤ, neg_ℤ-+ℤ, neg_ℤ-neg_ℤ)
