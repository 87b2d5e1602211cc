-- Rounding down: h is the floor of n / d where h d ≤ n < (h + 1) d. There is one such h, and
-- `floor` computes it.
use mathlib.Core.Path.{◌≡◌, refl, ap₂}
use mathlib.Core.Bool.{◌&&◌}
use Prim.Native.Nat.{ℕ, zero, suc, ◌+◌, ◌*◌, ◌/◌, ◌≤◌, ◌<◌}
use native.Mathlib.Omega.{arith}
use native.Mathlib.Nat.{div-le_self, div-mul-le_self, div-lt_iff_lt-mul, div-le_of_le-mul, lt-mul-div-succ}
use lib.IntN.{ℤ, pos, negsuc, nat_abs, ◌+ℤ◌, ◌*ℤ◌}
use lib.Signed.{◌≤ℤ◌, ◌<ℤ◌}
use mir.Facts.{and_yes}
use Rattle.std.specs.Int.{int_div_euclid}
use Rattle.whole.specs.Floor.{floor_div, floor}
use Rattle.whole.specs.Fractions.{Frac, whole}
use Rattle.whole.proofs.Int.{var, nat, add, by, le_by, lt_by, le_to, lt_to, reps}
use Rattle.whole.proofs.Ring.{≤ℤ_antisym, ≤ℤ-<ℤ_trans, ≤ℤ_of_<_suc, *ℤ_cancel_<}
use Rattle.whole.proofs.Range.{Below, Reads}

-- ---- the greatest whole number not above a fraction
pub record Floor (q : Frac) (h : ℤ) : Type 0 where
  pub below : (h *ℤ pos q.den) ≤ℤ q.num
  pub above : q.num <ℤ ((h +ℤ pos 1) *ℤ pos q.den)

pub floor_den : {q : Frac} {h : ℤ} → Floor q h → 0 < q.den
floor_den {q} {h} f =
    let vn = var q.num in let vh = var h in
    omega (arith, le_to f.below (search reps) (search reps), lt_to f.above (search reps) (search reps))

floor_le : {q : Frac} {h k : ℤ} → Floor q h → Floor q k → h ≤ℤ k
floor_le {q} {h} {k} f g = ≤ℤ_of_<_suc (*ℤ_cancel_< h (k +ℤ pos 1) q.den (≤ℤ-<ℤ_trans f.below g.above))

pub floor_unique : {q : Frac} {h k : ℤ} → Floor q h → Floor q k → h ≡ k
floor_unique f g = ≤ℤ_antisym (floor_le f g) (floor_le g f)

-- a whole number w more
pub floor_shift : (w n h : ℤ) (d : ℕ) → Floor record { num = n; den = d } h →
    Floor record { num = w *ℤ pos d +ℤ n; den = d } (w +ℤ h)
floor_shift w n h d f =
    let vw = var w in let vn = var n in let vh = var h in
    record {
      below = le_by (search reps) (search reps) (omega (arith, le_to f.below (search reps) (search reps)));
      above = lt_by (search reps) (search reps) (omega (arith, lt_to f.above (search reps) (search reps)));
    }

-- ---- `floor` computes it
next_above : (n d : ℕ) → n < suc d * (n / suc d + 1)
next_above n d = lt-mul-div-succ n (omega arith)

div_floor : (n : ℤ) (d : ℕ) → Floor record { num = n; den = suc d } (floor_div n (pos (suc d)))
unfolding floor_div
div_floor (pos n) d = record {
  below = le_by (by (nat (n / suc d)) (suc d)) (nat n) (omega (arith, div-mul-le_self n (suc d)));
  above = lt_by (nat n) (by (add (nat (n / suc d)) (nat 1)) (suc d)) (omega (arith, next_above n d));
}
div_floor (negsuc n) d = record {
  below = le_by (by (var (negsuc (n / suc d))) (suc d)) (var (negsuc n)) (omega (arith, next_above n d));
  above =
      lt_by (var (negsuc n)) (by (add (var (negsuc (n / suc d))) (nat 1)) (suc d))
      (omega (arith, div-mul-le_self n (suc d)));
}

pub floor_is : (q : Frac) → 0 < q.den → Floor q (floor q)
floor_is q l = go q.den l
  where
    go : (d : ℕ) → 0 < d → Floor record { num = q.num; den = d } (floor_div q.num (pos d))
    go zero l = absurd (omega arith)
    go (suc d) l = div_floor q.num d

-- the floor of w + n / d
pub floor_plus : (w n : ℤ) {d : ℕ} → 0 < d → floor_div (w *ℤ pos d +ℤ n) (pos d) ≡ w +ℤ floor_div n (pos d)
floor_plus w n {d} l =
    floor_unique
    (floor_is record { num = w *ℤ pos d +ℤ n; den = d } l)
    (floor_shift w n _ d (floor_is record { num = n; den = d } l))

-- a whole number as a fraction
pub floor_whole : (z : ℤ) → floor (whole z) ≡ z
floor_whole z =
    let v = var z in
    floor_unique (floor_is (whole z) (omega arith))
    record { below = le_by (search reps) v (omega arith); above = lt_by v (search reps) (omega arith) }

-- ---- its size, for proofs/Range.antt: `search (sizes, floor_b)` and `search (reads, floor_r)` reach through it
pub floor_size : (n d : ℤ) (b : ℕ) → nat_abs n ≤ b → nat_abs (floor_div n d) ≤ b
unfolding floor_div
floor_size n (negsuc d) b h = omega arith
floor_size n (pos zero) b h = omega arith
floor_size (pos n) (pos (suc d)) b h = omega (arith, div-le_self n (suc d))
floor_size (negsuc n) (pos (suc d)) b h = omega (arith, div-le_self n (suc d))

abbrev pub floor_b : {n : ℤ} (d : ℤ) → Below n → Below (floor_div n d)
floor_b {n} d u = record { b = u.b; ok = floor_size n d u.b u.ok }

abbrev pub floor_r : {m n x y : ℤ} → Reads m x → Reads n y → Reads (floor_div m n) (floor_div x y)
floor_r {n} u v = record {
  size = floor_b n u.size;
  good = u.good && v.good;
  same = λ t. let p = and_yes u.good v.good t in ap₂ floor_div (u.same p.0) (v.same p.1);
}

-- rounded down, a quotient is no larger than any whole bound on it
pub floor_size_by : (n : ℤ) (d k : ℕ) → nat_abs n ≤ k * d → nat_abs (floor_div n (pos d)) ≤ k
unfolding floor_div
floor_size_by n zero k h = omega arith
floor_size_by (pos n) (suc d) k h = div-le_of_le-mul (suc d) (omega arith)
floor_size_by (negsuc n) (suc d) k h = omega (arith, (div-lt_iff_lt-mul {k = suc d} {x = n} {y = k} (omega arith)).1 (omega arith))

-- ---- the two ways of `floor_div`
pub floor_none : (n d : ℤ) → d ≤ℤ pos 0 → pos 0 ≡ floor_div n d
unfolding floor_div
floor_none n (negsuc d) h = refl
floor_none n (pos zero) h = refl
floor_none n (pos (suc d)) h = absurd (omega (arith, le_to h (nat (suc d)) (nat 0)))

pub floor_some : (n d : ℤ) → pos 0 <ℤ d → int_div_euclid n d ≡ floor_div n d
unfolding floor_div
floor_some n (negsuc d) h = absurd h.lt
floor_some n (pos zero) h = absurd h.lt
floor_some (pos n) (pos (suc d)) h = refl
floor_some (negsuc n) (pos (suc d)) h = refl
