-- The steepest line so far from an eye at station i: it alone decides whether the next station is seen.
-- A line goes from the eye to a point t metres ahead. Its slope is its rise over t, and slopes are compared by products.
use mathlib.Core.Path.{◌≡◌}
use mathlib.Core.List.{List}
use Prim.Native.Nat.{ℕ, zero, suc, ◌+◌, ◌-◌, ◌≤◌, ◌<◌, min}
use native.Mathlib.Omega.{arith}
use lib.Dec.{T}
use lib.IntN.{ℤ, pos, ◌+ℤ◌, ◌-ℤ◌, ◌*ℤ◌}
use lib.ListN.{length}
use lib.Signed.{◌≤ℤ◌, ◌<ℤ◌, ≤ℤ_refl, clash_ℤ}
use Rattle.whole.proofs.Int.{var, le_by, eq_by, le_to, lt_to, reps}
use Rattle.whole.proofs.Ring.{≤ℤ_trans, ≤ℤ_of_<, *ℤ_mono, *ℤ_cancel, ring}
use Rattle.sight.specs.Sight.{height_at, seen, available_sight}
use Rattle.sight.proofs.Reach.{sight_by}
use Rattle.sight.proofs.Seen.{Between, one_more, Seen, seen_to, seen_by}

-- ---- slopes
-- a / k ≤ b / n
abbrev pub NoSteeper : ℤ → ℕ → ℤ → ℕ → Type 0
NoSteeper a k b n = (a *ℤ pos n) ≤ℤ (b *ℤ pos k)

-- a / k < b / n
abbrev pub Flatter : ℤ → ℕ → ℤ → ℕ → Type 0
Flatter a k b n = (a *ℤ pos n) <ℤ (b *ℤ pos k)

swap : (x y z : ℤ) → x *ℤ y *ℤ z ≡ x *ℤ z *ℤ y
swap x y z = simp ring

pub slope_trans : (a b c : ℤ) (k m n : ℕ) → 0 < m → NoSteeper a k c m → NoSteeper c m b n → NoSteeper a k b n
slope_trans a b c k m n l f g =
    *ℤ_cancel (a *ℤ pos n) (b *ℤ pos k) l
    (rw (swap a (pos n) (pos m), swap b (pos k) (pos m))
    (≤ℤ_trans (*ℤ_mono n f) (rw (swap c (pos k) (pos n)) (*ℤ_mono k g))))

-- higher is steeper
pub slope_raise : (a b : ℤ) (o k n : ℕ) → NoSteeper a k b n → NoSteeper a k (b +ℤ pos o) n
slope_raise a b o k n f =
    let v = var b in
    ≤ℤ_trans f (*ℤ_mono k {x = b} {y = b +ℤ pos o} (le_by (search reps) (search reps) (omega arith)))

-- the inequality of the rules says of an eye x high, an object o on a road y high and a station z high between them that the
-- line to the station is no steeper than the line to the object
module _ (x y z o : ℤ) (a b n : ℕ) (e : n ≡ a + b) where
  clears_by_slope : NoSteeper (z -ℤ x) b (y -ℤ x +ℤ o) n → (z *ℤ pos n) ≤ℤ (x *ℤ pos a +ℤ (y +ℤ o) *ℤ pos b)
  clears_by_slope h =
      let vx = var x in let vy = var y in let vz = var z in let vo = var o in
      rw e (le_by (search reps) (search reps) (omega (arith, le_to (rw e at h) (search reps) (search reps))))

  slope_by_clears : (z *ℤ pos n) ≤ℤ (x *ℤ pos a +ℤ (y +ℤ o) *ℤ pos b) → NoSteeper (z -ℤ x) b (y -ℤ x +ℤ o) n
  slope_by_clears h =
      let vx = var x in let vy = var y in let vz = var z in let vo = var o in
      rw e (le_by (search reps) (search reps) (omega (arith, le_to (rw e at h) (search reps) (search reps))))

-- ---- lines from the eye
-- how far the road t metres ahead lies above the eye
abbrev pub rise : (ℕ → ℤ) → ℕ → ℕ → ℕ → ℤ
rise h e i t = h (i + t) -ℤ (h i +ℤ pos e)

-- the road under the eye
pub rise_under : (h : ℕ → ℤ) (e i : ℕ) → pos 0 -ℤ pos e ≡ rise h e i 0
rise_under h e i =
    let q : i + 0 ≡ i = omega arith in let v = var (h i) in
    rw q (eq_by (search reps) (search reps) (omega arith))

-- an object is seen where no line to a station before it is steeper than the line to it
module _ (h : ℕ → ℤ) (e o i n : ℕ) where
  pub seen_by_slopes : Between (λ t. NoSteeper (rise h e i t) t (rise h e i n +ℤ pos o) n) 0 n → Seen h e o i (i + n)
  seen_by_slopes f k l r =
      let p : i + (k - i) ≡ k = omega arith in let q : i + n - i ≡ n = omega arith in
      rw q (clears_by_slope (h i +ℤ pos e) (h (i + n)) (h k) (pos o) (i + n - k) (k - i) n (omega arith)
      (rw p at (f (k - i) (omega arith) (omega arith))))

  pub slopes_by_seen : Seen h e o i (i + n) → Between (λ t. NoSteeper (rise h e i t) t (rise h e i n +ℤ pos o) n) 0 n
  slopes_by_seen g t l r =
      let p : i + t - i ≡ t = omega arith in let q : i + n - i ≡ n = omega arith in
      slope_by_clears (h i +ℤ pos e) (h (i + n)) (h (i + t)) (pos o) (i + n - (i + t)) t n (omega arith)
      (rw (p, q) at (g (i + t) (omega arith) (omega arith)))

-- no line is flatter than the one straight down, to the road under the eye
flatter_ahead : (h : ℕ → ℤ) (e i : ℕ) (x : ℤ) (run n : ℕ) → Flatter x n (rise h e i run) run → 0 < run
flatter_ahead h e i x zero n f =
    let q : i + 0 ≡ i = omega arith in let v = var (h i) in let vx = var x in
    omega (arith, lt_to (rw q at f) (search reps) (search reps))
flatter_ahead h e i x (suc run) n f = omega arith

-- ---- a search that comes to the station `next` metres ahead
-- all stations before it are seen, and none of them lies above the line to the road `run` metres ahead; before the first station the
-- line goes straight down
pub record Passed (h : ℕ → ℤ) (e o i run next : ℕ) : Type 0 where
  pub ahead : 1 < next → 0 < run
  pub before : run < next
  pub steepest : Between (λ t. NoSteeper (rise h e i t) t (rise h e i run) run) 0 next
  pub seen_all : Between (λ t. T (seen h e o i (i + t))) 0 next

module _ {h : ℕ → ℤ} {e o i : ℕ} where
  pub passed_none : Passed h e o i 0 1
  passed_none = record {
    ahead = λ l. omega arith;
    before = omega arith;
    steepest = λ t l r. absurd (omega arith);
    seen_all = λ t l r. absurd (omega arith);
  }

  module _ {run next : ℕ} (w : Passed h e o i run next) where
    -- no line to a station before is steeper than what is as steep as the steepest
    none_steeper : (x : ℤ) → NoSteeper (rise h e i run) run x next → Between (λ t. NoSteeper (rise h e i t) t x next) 0 next
    none_steeper x f t l r =
        slope_trans (rise h e i t) x (rise h e i run) t run next (w.ahead (omega arith)) (w.steepest t l r) f

    -- an object, of any height, on the steepest line or above it is seen
    pub object_seen : (o' : ℕ) → NoSteeper (rise h e i run) run (rise h e i next +ℤ pos o') next → T (seen h e o' i (i + next))
    object_seen o' f = seen_by h e o' i (i + next) (seen_by_slopes h e o' i next (none_steeper (rise h e i next +ℤ pos o') f))

    -- one below it is hidden, by the station `run` metres ahead
    pub object_hidden : (o' : ℕ) → Flatter (rise h e i next +ℤ pos o') next (rise h e i run) run → T (seen h e o' i (i + next)) → ⊥
    object_hidden o' f s =
        let ahead = flatter_ahead h e i (rise h e i next +ℤ pos o') run next f in
        clash_ℤ f (slopes_by_seen h e o' i next (seen_to h e o' i (i + next) s) run ahead w.before)

    -- the next station's road is on the line or above it: the line to it is the steepest
    pub passed_steep : NoSteeper (rise h e i run) run (rise h e i next) next → Passed h e o i next (next + 1)
    passed_steep f = record {
      ahead = λ l. omega (arith, w.before);
      before = omega arith;
      steepest = one_more (none_steeper (rise h e i next) f) (≤ℤ_refl _);
      seen_all = one_more w.seen_all (object_seen o (slope_raise (rise h e i run) (rise h e i next) o run next f));
    }

    -- its road is below the line and the object on it is not: the line stays
    pub passed_seen : Flatter (rise h e i next) next (rise h e i run) run →
        NoSteeper (rise h e i run) run (rise h e i next +ℤ pos o) next → Passed h e o i run (next + 1)
    passed_seen f g = record {
      ahead = λ l. flatter_ahead h e i (rise h e i next) run next f;
      before = omega (arith, w.before);
      steepest = one_more w.steepest (≤ℤ_of_< f);
      seen_all = one_more w.seen_all (object_seen o g);
    }

-- ---- its end, over a list
module _ (list : List ℤ) {e o i run next : ℕ} (far : ℕ) (w : Passed (height_at list) e o i run next) where
  -- the object on the next station is below the line: hidden by the station `run` metres ahead
  pub passed_hidden : next ≤ min far (length list - 1 - i) →
      Flatter (rise (height_at list) e i next +ℤ pos o) next (rise (height_at list) e i run) run →
      next - 1 ≡ available_sight list i e o far
  passed_hidden l f =
      let q : suc (next - 1) ≡ next = omega (arith, w.before) in
      sight_by list i e o far record {
        within = omega arith;
        all = λ t m r. w.seen_all t m (omega (arith, w.before));
        stop = λ m p. object_hidden w o f (rw q at p);
      }

  -- all up to the limit are seen
  pub passed_all : next ≡ min far (length list - 1 - i) + 1 → next - 1 ≡ available_sight list i e o far
  passed_all q =
      sight_by list i e o far record {
        within = omega arith;
        all = λ t l r. w.seen_all t l (omega arith);
        stop = λ m p. omega arith;
      }
