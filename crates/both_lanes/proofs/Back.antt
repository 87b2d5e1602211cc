-- Along the curves from station x₀ on and back along the same curves mirrored, from the end of a road of length n, the exact
-- heights have the same values. By induction on the curves, since the first of them is one more behind the others mirrored:
--   from its end on    the induction's own case;
--   on it              the same parabola from its other end, over the same denominator;
--   up to its begin    behind all curves of the way back, a whole number on the straight.
-- At its two ends one side is a whole number and the other a fraction of that value.
use Prim.Native.Nat.{ℕ, ◌+◌, ◌-◌, ◌*◌, ◌≤◌, ◌<◌}
use mathlib.Core.Bool.{Bool, true, false}
use mathlib.Core.List.{List, [], ◌∷◌}
use mathlib.Core.Logic.{◌⊎◌, inl, inr, ⊎_elim}
use mathlib.Core.Path.{◌≡◌, refl, ◌∙◌}
use borrow.Author.Tests.{leb-true, leb-false}
use native.Mathlib.Nat.{div-add-mod}
use native.Mathlib.Omega.{arith}
use lib.Dec.{leb}
use lib.IntN.{ℤ, pos, neg_ℤ, ◌+ℤ◌, ◌*ℤ◌}
use Rattle.whole.specs.Fractions.{Frac, whole}
use Rattle.whole.proofs.Int.{var, reps, eq_by}
use Rattle.whole.proofs.Ring.{+ℤ-*ℤ}
use Rattle.road.specs.declared.Curve.{Curve}
use Rattle.road.specs.Road.{begin, end, half}
use Rattle.road.specs.Order.{InOrder}
use Rattle.heights.specs.Profile.{straight, on_curve, end_height, exact_from}
use Rattle.heights.proofs.Along.{exact_before, exact_on}
use Rattle.mirror.specs.Mirror.{turned, mirrored, last_grade}
use Rattle.both_lanes.proofs.Values.{Same, same_sym, same_num}
use Rattle.both_lanes.proofs.Order.{placed_on, turned_begin, turned_end, mirrored_in_order}
use Rattle.both_lanes.proofs.Behind.{behind, straight_still, from_end, exact_behind, last_grade_more, behind_more, exact_more_before, exact_more_on}

-- ---- whole numbers
split : (a b : ℕ) → (a ≤ b) ⊎ (b < a)
split a b = go (leb a b) refl
  where
    go : (t : Bool) → leb a b ≡ t → (a ≤ b) ⊎ (b < a)
    go true e = inl (leb-true a b e)
    go false e = inr (leb-false a b e)

-- d + b metres up a straight and b metres down again
straight_back : (z g : ℤ) (a b d : ℕ) → a ≡ d + b → straight (straight z g a) (neg_ℤ g) b ≡ straight z g d
straight_back z g a b d e =
    let v = var z in let w = var g in rw e (eq_by (search reps depth 9) (search reps) (omega arith))

-- the same over a curve of length 2 h
over_back : (z g k : ℤ) (h : ℕ) → z +ℤ (g +ℤ k) *ℤ pos h +ℤ (neg_ℤ k +ℤ neg_ℤ g) *ℤ pos h ≡ z
over_back z g k h = let u = var z in let v = var g in let w = var k in eq_by (search reps depth 9) u (omega arith)

-- the parabola of a curve of length L = 2 h = a + b, a metres after its begin and b metres before its end
module _ (z g k : ℤ) (L h a b : ℕ) (even : L ≡ 2 * h) (parts : L ≡ a + b) where
  top_times : (z +ℤ (g +ℤ k) *ℤ pos h) *ℤ pos (2 * L) ≡ z *ℤ pos (2 * L) +ℤ (g +ℤ k) *ℤ pos (L * L)
  top_times =
      let u = var z in let v = var g in let w = var k in
      rw even (eq_by (search reps depth 9) (search reps depth 9) (omega arith))

  parabola_back : (on_curve z g k L a).num ≡ (on_curve (z +ℤ (g +ℤ k) *ℤ pos h) (neg_ℤ k) (neg_ℤ g) L b).num
  parabola_back =
      let u = var z in let v = var g in let w = var k in
      rw (+ℤ-*ℤ (z +ℤ (g +ℤ k) *ℤ pos h) (neg_ℤ k *ℤ pos b) (pos (2 * L)), top_times, parts)
      (eq_by (search reps depth 12) (search reps depth 12) (omega arith))

-- ---- the way back
-- from the road's end: its height at station x, and that on the straight behind all its curves
abbrev exact_back : ℕ → ℕ → ℤ → ℤ → List Curve → ℕ → Frac
exact_back n x₀ z g cs x = exact_from 0 (behind x₀ z g cs n) (neg_ℤ (last_grade g cs)) (mirrored n g cs) (n - x)

abbrev behind_back : ℕ → ℕ → ℤ → ℤ → List Curve → ℕ → ℤ
behind_back n x₀ z g cs x = behind 0 (behind x₀ z g cs n) (neg_ℤ (last_grade g cs)) (mirrored n g cs) (n - x)

pub grade_back : (n : ℕ) (g : ℤ) (cs : List Curve) → last_grade (neg_ℤ (last_grade g cs)) (mirrored n g cs) ≡ neg_ℤ g
unfolding last_grade mirrored
grade_back n g [] = refl
grade_back n g (c ∷ cs) = last_grade_more _ (mirrored n c.grade_out cs) (turned n g c)

-- up to the first curve, which is behind all curves of the way back, it is the same straight
behind_back_lem : (n x₀ x : ℕ) (z g : ℤ) (cs : List Curve) → InOrder n x cs → x₀ ≤ x → x ≤ n →
    behind_back n x₀ z g cs x ≡ straight z g (x - x₀)
unfolding behind last_grade mirrored
behind_back_lem n x₀ x z g [] o l m = straight_back z g (n - x₀) (n - x - 0) (x - x₀) (omega arith)
behind_back_lem n x₀ x z g (c ∷ cs) o l m =
    let p = o.0 in let k = c.grade_out in
    let foot = straight z g (begin c - x₀) in let top = end_height foot g c in
    let there : behind_back n (end c) top k cs (end c) ≡ top
    = behind_back_lem n (end c) (end c) top k cs o.1 (omega arith) p.before_end ∙ straight_still top k _ (omega arith) in
    behind_more 0 (behind (end c) top k cs n) (neg_ℤ (last_grade k cs)) (mirrored n k cs) (turned n g c) (n - x)
    ∙ rw (turned_begin n x g c p, there, grade_back n k cs, over_back foot g k (half c), turned_end n x g c p)
    (straight_back z g (begin c - x₀) (n - x - (n - begin c)) (x - x₀) (omega (arith, p.ordered, p.before_end)))

same_before : (n x₀ : ℕ) (z g : ℤ) (cs : List Curve) (x : ℕ) → InOrder n x cs → x₀ ≤ x → x ≤ n →
    Same (whole (straight z g (x - x₀))) (exact_back n x₀ z g cs x)
same_before n x₀ z g cs x o l m =
    same_sym
    (rw (behind_back_lem n x₀ x z g cs o l m) at
    (exact_behind (n - x) 0 (behind x₀ z g cs n) (neg_ℤ (last_grade g cs)) (mirrored n g cs) (n - x) (mirrored_in_order n x g cs o) (omega arith)))

-- ---- at the first curve
-- station x between u and v, counted from the other end of n
module _ {n x u v : ℕ} (l : u < x) (m : x < v) (k : v ≤ n) where
  back_after : n - v < n - x
  back_after = omega arith

  back_upto : n - x ≤ n - u
  back_upto = omega arith

  back_parts : v - u ≡ x - u + (n - x - (n - v))
  back_parts = omega arith

module _ (n x₀ : ℕ) (z g : ℤ) (c : Curve) (cs : List Curve) (o : InOrder n x₀ (c ∷ cs)) (x : ℕ) where
  abbrev k : ℤ
  k = c.grade_out

  abbrev foot : ℤ
  foot = straight z g (begin c - x₀)

  abbrev top : ℤ
  top = end_height foot g c

  -- from its end on it is the way back along the others
  past_back : end c ≤ x → exact_back n x₀ z g (c ∷ cs) x ≡ exact_back n (end c) top k cs x
  unfolding behind last_grade mirrored
  past_back l =
      exact_more_before 0 (behind (end c) top k cs n) (neg_ℤ (last_grade k cs)) (mirrored n k cs) (turned n g c) (n - x)
      (omega (arith, turned_begin n x₀ g c o.0))

  -- on it the curve begins at its top
  on_back : begin c < x → x < end c →
      exact_back n x₀ z g (c ∷ cs) x ≡ on_curve top (neg_ℤ k) (neg_ℤ g) c.length (n - x - (n - end c))
  unfolding behind last_grade mirrored
  on_back l u =
      let p = o.0 in let begins = turned_begin n x₀ g c p in let on = p.before_end in
      let there : behind_back n (end c) top k cs (end c) ≡ top
      = behind_back_lem n (end c) (end c) top k cs o.1 (omega arith) on ∙ straight_still top k _ (omega arith) in
      exact_more_on 0 (behind (end c) top k cs n) (neg_ℤ (last_grade k cs)) (mirrored n k cs) (turned n g c) (n - x)
      (rw begins (mirrored_in_order n (end c) k cs o.1))
      (rw begins (back_after l u on)) (rw (turned_end n x₀ g c p) (back_upto l u on))
      ∙ rw (begins, there, grade_back n k cs) refl

  same_on : begin c < x → x < end c → Same (exact_from x₀ z g (c ∷ cs) x) (exact_back n x₀ z g (c ∷ cs) x)
  same_on l u =
      let p = o.0 in
      let even : c.length ≡ 2 * half c = omega (arith, p.even, div-add-mod c.length 2) in
      let run : c.length ≡ end c - begin c = omega (arith, p.from_zero) in
      rw (exact_on x₀ z g c cs x l (omega arith), on_back l u)
      (same_num _ _ (omega arith) refl
      (parabola_back foot g k c.length (half c) (x - begin c) (n - x - (n - end c)) even (run ∙ back_parts l u p.before_end)))

-- ---- the same values
pub same_back : (n x₀ : ℕ) (z g : ℤ) (cs : List Curve) (x : ℕ) → InOrder n x₀ cs → x₀ ≤ x → x ≤ n →
    Same (exact_from x₀ z g cs x) (exact_back n x₀ z g cs x)
unfolding exact_from
same_back n x₀ z g [] x o l m = same_before n x₀ z g [] x o l m
same_back n x₀ z g (c ∷ cs) x o l m =
    ⊎_elim
    (λ h. rw (exact_before x₀ z g c cs x h)
    (same_before n x₀ z g (c ∷ cs) x (placed_on o.0 (omega arith) h, o.1) l m))
    (λ h. ⊎_elim
    (λ e. rw (past_back n x₀ z g c cs o x e) (from_end n x₀ z g c cs o x e (same_back n (end c) _ _ cs x o.1 e m)))
    (λ e. same_on n x₀ z g c cs o x h e)
    (split (end c) x))
    (split x (begin c))
