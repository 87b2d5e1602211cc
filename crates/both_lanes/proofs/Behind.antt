-- The exact profile along curves that are in order: what it is behind them, and with one curve more at the end.
use Prim.Native.Nat.{ℕ, ◌-◌, ◌≤◌, ◌<◌}
use mathlib.Core.List.{List, [], ◌∷◌, ◌++◌}
use mathlib.Core.Logic.{⊎_elim}
use mathlib.Core.Path.{◌≡◌, refl, ap, ◌∙◌}
use native.Mathlib.Nat.{eq-or-lt_of_le, eq-zero-or-pos, div-add-mod}
use native.Mathlib.Omega.{arith}
use lib.IntN.{ℤ, ◌+ℤ◌}
use Rattle.whole.specs.Fractions.{Frac, whole}
use Rattle.road.specs.declared.Curve.{Curve}
use Rattle.road.specs.Road.{begin, end, half}
use Rattle.road.specs.Order.{InOrder}
use Rattle.heights.specs.Profile.{straight, on_curve, end_height, exact_from}
use Rattle.heights.proofs.Profile.{curve_end_whole}
use Rattle.heights.proofs.Walked.{straight_none}
use Rattle.heights.proofs.Along.{exact_before, exact_on, exact_past}
use Rattle.mirror.specs.Mirror.{last_grade}
use Rattle.both_lanes.proofs.Values.{Same, same_refl, same_trans, same_whole}

-- the height at station x behind the last of the curves, a whole number
unfoldable pub behind : ℕ → ℤ → ℤ → List Curve → ℕ → ℤ
behind x₀ z g [] x = straight z g (x - x₀)
behind x₀ z g (c ∷ cs) x = behind (end c) (end_height (straight z g (begin c - x₀)) g c) c.grade_out cs x

-- ---- at the station where it starts
-- no metre on, the height is the same
pub straight_still : (z g : ℤ) (d : ℕ) → d ≡ 0 → straight z g d ≡ z
straight_still z g d e = rw e (straight_none z g)

exact_here : (n x₀ : ℕ) (z g : ℤ) (cs : List Curve) → InOrder n x₀ cs → exact_from x₀ z g cs x₀ ≡ whole z
unfolding exact_from
exact_here n x₀ z g [] o = ap whole (straight_still z g _ (omega arith))
exact_here n x₀ z g (c ∷ cs) o = exact_before x₀ z g c cs x₀ o.0.ordered ∙ ap whole (straight_still z g _ (omega arith))

-- ---- from the first curve's end on
module _ (n x₀ : ℕ) (z g : ℤ) (c : Curve) (cs : List Curve) (o : InOrder n x₀ (c ∷ cs)) where
  abbrev foot : ℤ
  foot = straight z g (begin c - x₀)

  -- the value at its end is whole; a curve that has no length ends where it begins
  at_end : Same (exact_from x₀ z g (c ∷ cs) (end c)) (whole (end_height foot g c))
  at_end = ⊎_elim none some (eq-zero-or-pos (half c))
    where
      none : half c ≡ 0 → Same (exact_from x₀ z g (c ∷ cs) (end c)) (whole (end_height foot g c))
      none e =
          let same : end c ≡ begin c = omega arith in
          rw (exact_before x₀ z g c cs (end c) (omega arith), same, straight_still foot (g +ℤ c.grade_out) (half c) e)
          (same_refl _ (omega arith))

      some : 0 < half c → Same (exact_from x₀ z g (c ∷ cs) (end c)) (whole (end_height foot g c))
      some l =
          let p = o.0 in
          let run : end c - begin c ≡ c.length = omega (arith, p.even, p.from_zero, div-add-mod c.length 2) in
          rw (exact_on x₀ z g c cs (end c) (omega (arith, p.from_zero)) (omega arith), run)
          (same_whole _ _ (omega arith) (curve_end_whole foot g c p.even))

  -- from there on the value is that along the curves after it
  pub from_end : (x : ℕ) {q : Frac} → end c ≤ x →
      Same (exact_from (end c) (end_height foot g c) c.grade_out cs x) q → Same (exact_from x₀ z g (c ∷ cs) x) q
  from_end x l same =
      ⊎_elim
      (λ e. rw (← e)
      (same_trans at_end (rw (← e, exact_here n (end c) (end_height foot g c) c.grade_out cs o.1) at same)))
      (λ m. rw (exact_past x₀ z g c cs x m) same)
      (eq-or-lt_of_le l)

-- ---- behind all curves of a road of length n the value is whole
pub exact_behind : (n x₀ : ℕ) (z g : ℤ) (cs : List Curve) (x : ℕ) → InOrder n x₀ cs → n ≤ x →
    Same (exact_from x₀ z g cs x) (whole (behind x₀ z g cs x))
unfolding exact_from behind
exact_behind n x₀ z g [] x o l = same_refl _ (omega arith)
exact_behind n x₀ z g (c ∷ cs) x o l =
    from_end n x₀ z g c cs o x (omega (arith, o.0.before_end)) (exact_behind n (end c) _ _ cs x o.1 l)

-- ---- one curve more
pub last_grade_more : (g : ℤ) (cs : List Curve) (d : Curve) → last_grade g (cs ++ (d ∷ [])) ≡ d.grade_out
unfolding last_grade
last_grade_more g [] d = refl
last_grade_more g (c ∷ cs) d = last_grade_more c.grade_out cs d

pub behind_more : (x₀ : ℕ) (z g : ℤ) (cs : List Curve) (d : Curve) (x : ℕ) → behind x₀ z g (cs ++ (d ∷ [])) x
    ≡ straight (end_height (behind x₀ z g cs (begin d)) (last_grade g cs) d) d.grade_out (x - end d)
unfolding behind last_grade
behind_more x₀ z g [] d x = refl
behind_more x₀ z g (c ∷ cs) d x = behind_more (end c) _ _ cs d x

pub exact_more_before : (x₀ : ℕ) (z g : ℤ) (cs : List Curve) (d : Curve) (x : ℕ) → x ≤ begin d →
    exact_from x₀ z g (cs ++ (d ∷ [])) x ≡ exact_from x₀ z g cs x
unfolding exact_from
exact_more_before x₀ z g [] d x l = exact_before x₀ z g d [] x l
exact_more_before x₀ z g (c ∷ cs) d x l = rw (exact_more_before (end c) _ _ cs d x l) refl

pub exact_more_on : (x₀ : ℕ) (z g : ℤ) (cs : List Curve) (d : Curve) (x : ℕ) → InOrder (begin d) x₀ cs → begin d < x → x ≤ end d →
    exact_from x₀ z g (cs ++ (d ∷ [])) x
    ≡ on_curve (behind x₀ z g cs (begin d)) (last_grade g cs) d.grade_out d.length (x - begin d)
unfolding behind last_grade
exact_more_on x₀ z g [] d x o l u = exact_on x₀ z g d [] x l u
exact_more_on x₀ z g (c ∷ cs) d x o l u =
    exact_past x₀ z g c (cs ++ (d ∷ [])) x (omega (arith, o.0.before_end)) ∙ exact_more_on (end c) _ _ cs d x o.1 l u
