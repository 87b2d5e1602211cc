-- Laws of a walk along the profile: how far from zero its heights can be, and what the exact profile is on a straight, on a
-- curve and past its end.
use Prim.Native.Nat.{ℕ, ◌+◌, ◌*◌, ◌-◌, ◌≤◌, ◌<◌}
use mathlib.Core.Path.{◌≡◌, sym, ap, ◌∙◌}
use mathlib.Core.List.{List, [], ◌∷◌}
use borrow.Author.Tests.{le-leb, lt-leb}
use native.Mathlib.Nat.{mul-le-mul_left}
use native.Mathlib.Omega.{arith}
use lib.IntN.{ℤ, pos, nat_abs, neg_ℤ, ◌+ℤ◌, ◌-ℤ◌, ◌*ℤ◌}
use lib.ListN.{set}
use mir.Syntax.{w16}
use mir.Val.{to_z, of_z}
use Rattle.whole.specs.Fill.{filled}
use Rattle.whole.specs.Floor.{floor_div, floor}
use Rattle.whole.specs.Fractions.{whole}
use Rattle.whole.proofs.Fill.{filled_more, filled_then}
use Rattle.whole.proofs.Floor.{floor_plus, floor_whole, floor_size_by}
use Rattle.whole.proofs.Range.{add_size, neg_size, mul_size, range_size, read_size}
use Rattle.terms.specs.Limits.{highest_start, greatest_grade, greatest_long_road}
use Rattle.road.specs.declared.Curve.{Curve}
use Rattle.road.specs.Road.{begin, end, half}
use Rattle.road.specs.Order.{Placed, CurveInRange}
use Rattle.heights.specs.declared.Walk.{Walk}
use Rattle.heights.specs.Profile.{straight, on_curve, end_height, exact_from}
use Rattle.heights.specs.Walk.{CurveHere, height_along, exact_ahead}

-- ---- sizes
-- how far from zero a walk on a road can stand
abbrev pub height_bound : ℕ
height_bound = nat_abs highest_start + greatest_grade * greatest_long_road

pub grade_out_size : {c : Curve} → CurveInRange c → nat_abs c.grade_out ≤ greatest_grade
grade_out_size {c} r = range_size {a = greatest_grade} c.grade_out (omega arith) r.grade_low r.grade_high

pub out_size : (c : Curve) → CurveInRange c → nat_abs (to_z w16 (of_z w16 c.grade_out)) ≤ greatest_grade
out_size c r = read_size w16 c.grade_out _ (grade_out_size r)

-- on along the straight, and at the end of a curve that begins at its station
module _ (at : Walk) where
  pub along_size : (x : ℕ) → at.station ≤ x → nat_abs (height_along at x) ≤ nat_abs highest_start + greatest_grade * x
  along_size x l =
      let rise = mul_size at.grade (pos (x - at.station)) greatest_grade (x - at.station) at.grade_size (omega arith) in
      omega (arith, add_size at.height (at.grade *ℤ pos (x - at.station)) _ _ at.height_size rise)

  pub over_size : (c : Curve) → CurveHere at.station c → nat_abs (end_height at.height at.grade c) ≤ nat_abs highest_start + greatest_grade * end c
  over_size c h =
      let turn = add_size at.grade c.grade_out _ _ at.grade_size (grade_out_size h.curve) in
      let rise = mul_size (at.grade +ℤ c.grade_out) (pos (half c)) (greatest_grade + greatest_grade) (half c) turn (omega arith) in
      omega (arith, add_size at.height ((at.grade +ℤ c.grade_out) *ℤ pos (half c)) _ _ at.height_size rise, h.here)

-- ---- on a curve
-- what the bend adds to the straight, by how far the grades differ: at most half of that a metre
pub turn_size : (t : ℤ) (b L d : ℕ) → nat_abs t ≤ 2 * b → d ≤ L → nat_abs (floor_div (t *ℤ pos d *ℤ pos d) (pos (2 * L))) ≤ b * d
turn_size t b L d h l =
    let once = mul_size t (pos d) (2 * b) d h (omega arith) in
    let twice = mul_size (t *ℤ pos d) (pos d) (2 * b * d) d once (omega arith) in
    let run = mul-le-mul_left (b * d) l in
    floor_size_by (t *ℤ pos d *ℤ pos d) (2 * L) (b * d) (omega arith)

-- at most the greatest grade a metre, half of what two grades can differ by
pub bend_size : (gin gout : ℤ) (L d : ℕ) → nat_abs gin ≤ greatest_grade → nat_abs gout ≤ greatest_grade → d ≤ L →
    nat_abs (floor_div ((gout -ℤ gin) *ℤ pos d *ℤ pos d) (pos (2 * L))) ≤ greatest_grade * d
bend_size gin gout L d hin hout l =
    let turn = add_size gout (neg_ℤ gin) _ _ hout (neg_size gin _ hin) in
    turn_size (gout -ℤ gin) greatest_grade L d (omega arith) l

-- the stored height there: the straight's, and the bend rounded down
pub curve_floor : (z gin gout : ℤ) (L d : ℕ) → 0 < L →
    floor (on_curve z gin gout L d) ≡ straight z gin d +ℤ floor_div ((gout -ℤ gin) *ℤ pos d *ℤ pos d) (pos (2 * L))
curve_floor z gin gout L d l = floor_plus (straight z gin d) ((gout -ℤ gin) *ℤ pos d *ℤ pos d) (omega arith)

-- ---- the exact profile at the next curve
module _ (x₀ : ℕ) (z g : ℤ) (c : Curve) (cs : List Curve) (x : ℕ) where
  pub exact_before : x ≤ begin c → exact_from x₀ z g (c ∷ cs) x ≡ whole (straight z g (x - x₀))
  unfolding exact_from
  exact_before l = simp (le-leb _ _ l)

  pub exact_on : begin c < x → x ≤ end c →
      exact_from x₀ z g (c ∷ cs) x ≡ on_curve (straight z g (begin c - x₀)) g c.grade_out c.length (x - begin c)
  unfolding exact_from
  exact_on l u = simp (lt-leb _ _ l, le-leb _ _ u)

  pub exact_past : end c < x →
      exact_from x₀ z g (c ∷ cs) x ≡ exact_from (end c) (end_height (straight z g (begin c - x₀)) g c) c.grade_out cs x
  unfolding exact_from
  exact_past l =
      let after : begin c < x = omega arith in
      simp (lt-leb _ _ after, lt-leb _ _ l)

-- up to its end the curves after it do not count
pub exact_upto : (x₀ : ℕ) (z g : ℤ) (c : Curve) (cs : List Curve) (x : ℕ) → x ≤ end c →
    exact_from x₀ z g (c ∷ cs) x ≡ exact_from x₀ z g (c ∷ []) x
unfolding exact_from
exact_upto x₀ z g c cs x u = simp (le-leb _ _ u)

-- ---- past a curve
pub filled_past : (at : Walk) (c : Curve) (x : ℕ) (z g : ℤ) (xs ys zs : List ℤ) → Placed greatest_long_road at.station c →
    x ≡ begin c → z ≡ height_along at (begin c) → g ≡ at.grade →
    ys ≡ filled (height_along at) (at.station + 1) (begin c - at.station) xs →
    zs ≡ filled (λ y. floor (on_curve z g c.grade_out c.length (y - x))) (x + 1) c.length ys →
    zs ≡ filled (λ y. floor (exact_ahead at (c ∷ []) y)) (at.station + 1) (end c - at.station) xs
filled_past at c x z g xs ys zs h ex ez eg p q =
    let x₀ = at.station in let order = h.ordered in
    let run : begin c + c.length ≡ end c = omega (arith, h.even, h.from_zero) in
    filled_then _ _ _ (x₀ + 1) (begin c - x₀) (begin c + 1) c.length (end c - x₀) xs ys zs p (rw (ex, ez, eg) at q) (omega arith) (omega arith)
    (λ y l u. sym (floor_whole (height_along at y)) ∙ ap floor (sym (exact_before x₀ at.height at.grade c [] y (omega arith))))
    (λ y l u. ap floor (sym (exact_on x₀ at.height at.grade c [] y (omega arith) (omega arith))))

-- ---- one station more of a row
pub row_more : (f : ℕ → ℤ) (i n j m : ℕ) (xs out : List ℤ) (v : ℤ) → j ≡ i + n → m ≡ n + 1 → out ≡ filled f i n xs → v ≡ f j →
    set out j v ≡ filled f i m xs
row_more f i n j m xs out v e k p q = rw (e, k) (filled_more f i n xs out v p (rw e at q))
