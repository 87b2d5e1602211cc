-- The inequality of sight at one station between, on exact heights and on their floors. It stays where the roads under eye and
-- object rise and the road between sinks. A floor is not above its fraction and less than 1 below it: so what passes over heights of
-- the one kind passes over those of the other with an eye and an object 1 higher.
use mathlib.Core.Path.{◌≡◌}
use Prim.Native.Nat.{ℕ, ◌+◌, ◌*◌, ◌<◌}
use native.Mathlib.Nat.{mul-pos}
use native.Mathlib.Omega.{arith}
use lib.IntN.{ℤ, pos, ◌+ℤ◌, ◌*ℤ◌}
use lib.Signed.{◌≤ℤ◌}
use Rattle.whole.specs.Fractions.{Frac, whole, raised, ◌+F◌, ◌*F◌}
use Rattle.whole.proofs.Floor.{Floor, floor_den}
use Rattle.whole.proofs.Int.{var, reps, le_by, le_to, lt_to}
use Rattle.whole.proofs.Ring.{+ℤ_mono, *ℤ_mono, ring}
use Rattle.sight.proofs.Steepest.{NoSteeper, slope_trans}

-- ---- the order of fractions
-- p ≤ q, as `le_f` tests it
pub record Le (p q : Frac) : Type 0 where
  pub products : NoSteeper p.num p.den q.num q.den

le_trans : {p q r : Frac} → 0 < q.den → Le p q → Le q r → Le p r
le_trans {p} {q} {r} l h k = record {
  products = slope_trans p.num r.num q.num p.den q.den r.den l h.products k.products;
}

module _ {p q : Frac} (n : ℕ) (h : Le p q) where
  raised_mono : Le (raised p n) (raised q n)
  raised_mono =
      let vp = var p.num in let vq = var q.num in
      record { products = le_by (search reps) (search reps) (omega (arith, le_to h.products (search reps) (search reps))) }

  times_mono : Le (p *F n) (q *F n)
  times_mono =
      let vp = var p.num in let vq = var q.num in
      record { products = le_by (search reps) (search reps) (omega (arith, le_to (*ℤ_mono n h.products) (search reps) (search reps))) }

-- both sides of a comparison of sums, over all four denominators
left_over : (m n a b s t : ℤ) → (m *ℤ b +ℤ n *ℤ a) *ℤ (s *ℤ t) ≡ m *ℤ s *ℤ (b *ℤ t) +ℤ n *ℤ t *ℤ (a *ℤ s)
left_over m n a b s t = simp ring

right_over : (m n a b s t : ℤ) → (m *ℤ t +ℤ n *ℤ s) *ℤ (a *ℤ b) ≡ m *ℤ a *ℤ (b *ℤ t) +ℤ n *ℤ b *ℤ (a *ℤ s)
right_over m n a b s t = simp ring

plus_mono : {p q r s : Frac} → Le p q → Le r s → Le (p +F r) (q +F s)
plus_mono {p} {q} {r} {s} h k =
    let a = p.den in let b = r.den in let c = q.den in let d = s.den in
    record {
      products =
          rw (
            left_over p.num r.num (pos a) (pos b) (pos c) (pos d),
            right_over q.num s.num (pos a) (pos b) (pos c) (pos d),
          )
          (+ℤ_mono (*ℤ_mono (b * d) h.products) (*ℤ_mono (a * c) k.products));
    }

-- a floor and its fraction
module _ {q : Frac} {h : ℤ} (f : Floor q h) where
  floor_below : Le (whole h) q
  floor_below =
      let vq = var q.num in let vh = var h in
      record { products = le_by (search reps) (search reps) (omega (arith, le_to f.below (search reps) (search reps))) }

  floor_above : Le q (whole (h +ℤ pos 1))
  floor_above =
      let vq = var q.num in let vh = var h in
      record { products = le_by (search reps) (search reps) (omega (arith, lt_to f.above (search reps) (search reps))) }

-- ---- the line from an eye e above the road p to an object o above the road q, a metres before the object and b behind the eye
module _ (a b e o : ℕ) where
  -- it passes over the road r
  abbrev pub Passes : Frac → Frac → Frac → Type 0
  Passes p q r = Le (r *F (a + b)) (raised p e *F a +F raised q o *F b)

  passes_mono : {p q r p' q' r' : Frac} → 0 < p.den → 0 < q.den → 0 < r.den → Le p p' → Le q q' → Le r' r →
      Passes p q r → Passes p' q' r'
  passes_mono lp lq lr hp hq hr s =
      le_trans lr (times_mono (a + b) hr)
      (le_trans (mul-pos lp lq) s (plus_mono (times_mono a (raised_mono e hp)) (times_mono b (raised_mono o hq))))

  -- over whole heights
  abbrev pub PassesWhole : ℤ → ℤ → ℤ → Type 0
  PassesWhole u v w = (w *ℤ pos (a + b)) ≤ℤ ((u +ℤ pos e) *ℤ pos a +ℤ (v +ℤ pos o) *ℤ pos b)

module _ {p q r : Frac} {u v w : ℤ} (fp : Floor p u) (fq : Floor q v) (fr : Floor r w) (a b e o : ℕ) where
  pub exact_then_stored : Passes a b e o p q r → PassesWhole a b (e + 1) (o + 1) u v w
  exact_then_stored s =
      let vu = var u in let vv = var v in let vw = var w in
      let t = passes_mono a b e o (floor_den fp) (floor_den fq) (floor_den fr) (floor_above fp) (floor_above fq) (floor_below fr) s in
      le_by (search reps) (search reps) (omega (arith, le_to t.products (search reps depth 9) (search reps depth 9)))

  pub stored_then_exact : PassesWhole a b e o u v w → Passes a b (e + 1) (o + 1) p q r
  stored_then_exact s =
      let vu = var u in let vv = var v in let vw = var w in
      let t : Passes a b (e + 1) (o + 1) (whole u) (whole v) (whole (w +ℤ pos 1))
      = record { products = le_by (search reps depth 9) (search reps depth 9) (omega (arith, le_to s (search reps) (search reps))) } in
      passes_mono a b (e + 1) (o + 1) (omega arith) (omega arith) (omega arith) (floor_below fp) (floor_below fq) (floor_above fr) t
