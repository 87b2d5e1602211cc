-- What the machine computes with signed numbers is what is meant, by the sizes of what it is computed from.
-- `Below z` holds a bound on the size of z. `search sizes` builds one for an expression of the machine from those of its
-- leaves (`leaf_b`, `count_b`, `nat_b`); the bound is a written number, so `fits_by (search (sizes, sfits_of) depth 16) tt`
-- shows that the result fits. `Reads m z` says that m, which the machine computes, is z: `same_by (search reads depth 20) tt`.
-- `Tests p q` says so of a comparison.
use mathlib.Core.Path.{◌≡◌, refl, ap, ap₂, ◌∙◌}
use mathlib.Core.Bool.{Bool, true, false, not, ◌&&◌}
use Prim.Native.Nat.{ℕ, zero, suc, ◌+◌, ◌*◌, ◌-◌, ◌≤◌, ◌<◌, ◌^◌}
use native.Mathlib.Omega.{arith}
use native.Mathlib.Nat.{le_refl, mul-le-mul, one-le-pow}
use lib.Dec.{T, ltb, ltb→lt, nltb→le}
use lib.IntN.{ℤ, pos, negsuc, neg_ℤ, nat_abs, ◌+ℤ◌, ◌*ℤ◌}
use lib.Signed.{mag, le_z, lt_z, nat_abs-le, ◌≤ℤ◌}
use mir.Syntax.{Width}
use mir.Val.{SFits, bits, hbits, to_z, of_z, sel}
use mir.ValLaws.{pow-bits}
use mir.Facts.{to_z-of_z, and_yes}
use Rattle.whole.proofs.Int.{up, dn, parts_nat_abs, add_ok, mul_ok, nat, var, neg, le_to}

-- ---- sizes
-- the size of z is at most b
pub record Below (z : ℤ) : Type 0 where
  pub b : ℕ
  pub ok : nat_abs z ≤ b

size_by : (z : ℤ) (p n b : ℕ) → up z + n ≡ p + dn z → p ≤ b → n ≤ b → nat_abs z ≤ b
size_by (pos a) p n b e h k = omega arith
size_by (negsuc a) p n b e h k = omega arith

pub add_size : (x y : ℤ) (b c : ℕ) → nat_abs x ≤ b → nat_abs y ≤ c → nat_abs (x +ℤ y) ≤ b + c
add_size x y b c h k =
    let s = parts_nat_abs x in let t = parts_nat_abs y in
    size_by (x +ℤ y) _ _ (b + c) (add_ok x y _ _ _ _ refl refl) (omega arith) (omega arith)

pub neg_size : (x : ℤ) (b : ℕ) → nat_abs x ≤ b → nat_abs (neg_ℤ x) ≤ b
neg_size (pos zero) b h = h
neg_size (pos (suc n)) b h = h
neg_size (negsuc n) b h = h

pub mul_size : (x y : ℤ) (b c : ℕ) → nat_abs x ≤ b → nat_abs y ≤ c → nat_abs (x *ℤ y) ≤ b * c
mul_size x y b c h k =
    let s : up x + dn x ≤ b = omega (arith, parts_nat_abs x) in
    let t : up y + dn y ≤ c = omega (arith, parts_nat_abs y) in
    let m = mul-le-mul s t in
    size_by (x *ℤ y) _ _ (b * c) (mul_ok x y (up x) (dn x) (up y) (dn y) refl refl) (omega arith) (omega arith)

-- a number in a range that reaches no farther down than up
pub range_size : {a b : ℕ} (z : ℤ) → a ≤ b → neg_ℤ (pos a) ≤ℤ z → z ≤ℤ pos b → nat_abs z ≤ b
range_size {b} (pos n) l low high = omega (arith, le_to high (nat n) (nat b))
range_size {a} (negsuc n) l low high = omega (arith, le_to low (neg (nat a)) (var (negsuc n)))

-- of what a call ensures of its result
pub as_size : (r m : ℤ) (b : ℕ) → r ≡ m → nat_abs m ≤ b → nat_abs r ≤ b
as_size r m b e h = rw e h

mag_le : (z : ℤ) → mag z ≤ nat_abs z
mag_le (pos n) = omega arith
mag_le (negsuc n) = omega arith

-- what is read from any bits is in the width's range
sel_size : (w : Width) (c : Bool) (m : ℕ) → (T c → m < 2 ^ hbits w) → (T (not c) → 2 ^ hbits w ≤ m) →
    nat_abs (sel c (pos m) (negsuc (2 ^ bits w - suc m))) ≤ 2 ^ hbits w
sel_size w true m f g = let h = f tt in omega arith
sel_size w false m f g = let h = g tt in omega (arith, pow-bits w, one-le-pow (hbits w) 2 (omega arith))

to_z_size : (w : Width) (m : ℕ) → nat_abs (to_z w m) ≤ 2 ^ hbits w
to_z_size w m = sel_size w (ltb m (2 ^ hbits w)) m (ltb→lt m (2 ^ hbits w)) (nltb→le m (2 ^ hbits w))

-- what is read back from a number's bits is no larger than the number: it is the number, or the number did not fit
pub read_size : (w : Width) (z : ℤ) (b : ℕ) → nat_abs z ≤ b → nat_abs (to_z w (of_z w z)) ≤ b
read_size w z b h = go (ltb (mag z) (2 ^ hbits w)) (ltb→lt (mag z) (2 ^ hbits w)) (nltb→le (mag z) (2 ^ hbits w))
  where
    go : (c : Bool) → (T c → mag z < 2 ^ hbits w) → (T (not c) → 2 ^ hbits w ≤ mag z) → nat_abs (to_z w (of_z w z)) ≤ b
    go true f g = rw (to_z-of_z {w = w} record { sfits = f tt }) h
    go false f g = let k = g tt in omega (arith, mag_le z, to_z_size w (of_z w z))

abbrev pub add_b : {x y : ℤ} → Below x → Below y → Below (x +ℤ y)
add_b {x} {y} u v = record { b = u.b + v.b; ok = add_size x y u.b v.b u.ok v.ok }

abbrev pub neg_b : {x : ℤ} → Below x → Below (neg_ℤ x)
neg_b {x} u = record { b = u.b; ok = neg_size x u.b u.ok }

abbrev pub mul_b : {x y : ℤ} → Below x → Below y → Below (x *ℤ y)
mul_b {x} {y} u v = record { b = u.b * v.b; ok = mul_size x y u.b v.b u.ok v.ok }

abbrev pub read_b : (w : Width) {z : ℤ} → Below z → Below (to_z w (of_z w z))
read_b w {z} u = record { b = u.b; ok = read_size w z u.b u.ok }

abbrev pub as_b : {r m : ℤ} → r ≡ m → Below m → Below r
as_b {r} {m} e u = record { b = u.b; ok = as_size r m u.b e u.ok }

-- a number that fits its width, and a natural up to a bound
abbrev pub fit_b : {w : Width} {z : ℤ} → SFits w z → Below z
fit_b {w} {z} f = record { b = 2 ^ hbits w; ok = nat_abs-le z f.sfits }

abbrev pub nat_b : {k : ℕ} (b : ℕ) → k ≤ b → Below (pos k)
nat_b {k} b h = record { b = b; ok = h }

-- the machine's leaves: a parameter, an element or a result; and a count, as a cast of an unsigned number hands it over
abbrev pub leaf_b : (w : Width) {z : ℤ} → SFits w z → Below (to_z w (of_z w z))
leaf_b w f = read_b w (fit_b f)

abbrev pub count_b : (w : Width) (n b : ℕ) → n ≤ b → Below (to_z w n)
count_b w n b h = read_b w {z = pos n} (nat_b b h)

pub ruleset sizes = (add_b, neg_b, mul_b, leaf_b, read_b)

-- the bound is a written number, so the test computes
pub fits_by : {w : Width} {z : ℤ} (u : Below z) → T (ltb u.b (2 ^ hbits w)) → SFits w z
fits_by {w} {z} u t = record { sfits = omega (arith, mag_le z, u.ok, ltb→lt u.b (2 ^ hbits w) t) }

-- ---- values
-- m, which the machine computes, is z if every step on the way was small enough, which a test says that computes
pub record Reads (m z : ℤ) : Type 0 where
  pub size : Below m
  pub good : Bool
  pub same : T good → m ≡ z

abbrev pub add_r : {m n x y : ℤ} → Reads m x → Reads n y → Reads (m +ℤ n) (x +ℤ y)
add_r u v = record {
  size = add_b u.size v.size;
  good = u.good && v.good;
  same = λ t. let p = and_yes u.good v.good t in ap₂ ◌+ℤ◌ (u.same p.0) (v.same p.1);
}

abbrev pub neg_r : {m x : ℤ} → Reads m x → Reads (neg_ℤ m) (neg_ℤ x)
neg_r u = record { size = neg_b u.size; good = u.good; same = λ t. ap neg_ℤ (u.same t) }

abbrev pub mul_r : {m n x y : ℤ} → Reads m x → Reads n y → Reads (m *ℤ n) (x *ℤ y)
mul_r u v = record {
  size = mul_b u.size v.size;
  good = u.good && v.good;
  same = λ t. let p = and_yes u.good v.good t in ap₂ ◌*ℤ◌ (u.same p.0) (v.same p.1);
}

abbrev pub read_r : (w : Width) {m z : ℤ} → Reads m z → Reads (to_z w (of_z w m)) z
read_r w {m} {z} u = record {
  size = read_b w u.size;
  good = ltb u.size.b (2 ^ hbits w) && u.good;
  same = λ t.
      let p = and_yes (ltb u.size.b (2 ^ hbits w)) u.good t in
      to_z-of_z (fits_by {w = w} u.size p.0) ∙ u.same p.1;
}

abbrev pub leaf_r : (w : Width) {z : ℤ} → SFits w z → Reads (to_z w (of_z w z)) z
leaf_r w f = record { size = leaf_b w f; good = true; same = λ t. to_z-of_z f }

abbrev nat_r : {k : ℕ} (b : ℕ) → k ≤ b → Reads (pos k) (pos k)
nat_r b h = record { size = nat_b b h; good = true; same = λ t. refl }

-- a literal, and a count
abbrev pub literal_r : (n : ℕ) → Reads (pos n) (pos n)
literal_r n = nat_r n (le_refl n)

abbrev pub count_r : (w : Width) (n b : ℕ) → n ≤ b → Reads (to_z w n) (pos n)
count_r w n b h = read_r w {m = pos n} (nat_r b h)

-- a signed number of a known size
abbrev pub known_r : (w : Width) (z : ℤ) (b : ℕ) → nat_abs z ≤ b → Reads (to_z w (of_z w z)) z
known_r w z b h = read_r w record { size = record { b = b; ok = h }; good = true; same = λ t. refl }

pub same_by : {m z : ℤ} (u : Reads m z) → T u.good → m ≡ z
same_by u t = u.same t

-- ---- comparisons
-- p, the outcome of a comparison by the machine, is q
pub record Tests (p q : Bool) : Type 0 where
  pub good : Bool
  pub same : T good → p ≡ q

abbrev pub le_r : {m n x y : ℤ} → Reads m x → Reads n y → Tests (le_z m n) (le_z x y)
le_r u v = record {
  good = u.good && v.good;
  same = λ t. let p = and_yes u.good v.good t in ap₂ le_z (u.same p.0) (v.same p.1);
}

abbrev pub lt_r : {m n x y : ℤ} → Reads m x → Reads n y → Tests (lt_z m n) (lt_z x y)
lt_r u v = record {
  good = u.good && v.good;
  same = λ t. let p = and_yes u.good v.good t in ap₂ lt_z (u.same p.0) (v.same p.1);
}

pub ruleset reads = (add_r, neg_r, mul_r, leaf_r, read_r, le_r, lt_r)
