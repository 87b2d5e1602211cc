-- A signed local of the machine holds bits. What is read back from them is the number, where it fits, and the flag of a
-- test of such numbers says how the whole numbers are ordered.
use mathlib.Core.Path.{◌≡◌, refl, sym, ◌∙◌, subst}
use mathlib.Core.Bool.{Bool, true, false, not}
use Prim.Native.Nat.{◌<◌, ◌^◌}
use lib.Dec.{T, leb, lt→ltb, nleb→lt}
use lib.IntN.{ℤ, pos, negsuc}
use lib.Signed.{mag, lt_z, le_z, ◌≤ℤ◌, ◌<ℤ◌, lt_z_yes, lt_z_no, le_z_yes}
use mir.Syntax.{Width}
use mir.Val.{SFits, hbits, to_z, of_z}
use mir.Facts.{to_z-of_z, sfits_widen}
use Rattle.whole.proofs.Range.{Tests}

-- ---- what is read back
-- of a parameter (`c.fits.x`)
pub plain : {w : Width} {z : ℤ} → SFits w z → to_z w (of_z w z) ≡ z
plain f = to_z-of_z f

-- of a call's result (`c.f.ok`)
pub got : (w : Width) (z : ℤ) → mag z < 2 ^ hbits w → to_z w (of_z w z) ≡ z
got w z h = to_z-of_z record { sfits = h }

-- of a number that is cast to a width that is no narrower: what the cast asks, and what it gives
abbrev pub Widens : Width → Width → ℤ → Type 0
Widens w v z = let narrow = to_z w (of_z w z) in SFits v narrow × (to_z v (of_z v narrow) ≡ z)

pub widens : (w v : Width) (z : ℤ) → mag z < 2 ^ hbits w → T (leb (hbits w) (hbits v)) → Widens w v z
widens w v z h wider =
    let fits : SFits v (to_z w (of_z w z)) = sfits_widen {w = w} {w' = v} wider (rw (got w z h) record { sfits = h }) in
    (fits, plain fits ∙ got w z h)

-- ---- a test's flag, of numbers that are known
not_le : (a b : ℤ) → T (not (le_z a b)) → T (lt_z b a)
not_le (pos m) (pos n) t = lt→ltb n m (nleb→lt m n t)
not_le (pos m) (negsuc n) t = tt
not_le (negsuc m) (pos n) t = absurd t
not_le (negsuc m) (negsuc n) t = lt→ltb m n (nleb→lt n m t)

module _ {a b x y : ℤ} (p : a ≡ x) (q : b ≡ y) where
  pub lt_true : lt_z a b ≡ true → x <ℤ y
  lt_true e = rw (p, q) at (lt_z_yes {a = a} {b = b} (subst T (sym e) tt))

  pub lt_false : lt_z a b ≡ false → y ≤ℤ x
  lt_false e = rw (p, q) at (lt_z_no {a = a} {b = b} (subst (λ (t : Bool). T (not t)) (sym e) tt))

  pub le_true : le_z a b ≡ true → x ≤ℤ y
  le_true e = rw (p, q) at (le_z_yes {a = a} {b = b} (subst T (sym e) tt))

  pub le_false : le_z a b ≡ false → y <ℤ x
  le_false e = rw (p, q) at (lt_z_yes {a = b} {b = a} (not_le a b (subst (λ (t : Bool). T (not t)) (sym e) tt)))

-- ---- a test's flag, of what the machine computed: `le_yes c.if1.taken (search reads depth 20) tt`
module _ {p : Bool} {x y : ℤ} where
  pub lt_yes : p ≡ true → (u : Tests p (lt_z x y)) → T u.good → x <ℤ y
  lt_yes e u t = lt_true {a = x} {b = y} refl refl (sym (u.same t) ∙ e)

  pub lt_no : p ≡ false → (u : Tests p (lt_z x y)) → T u.good → y ≤ℤ x
  lt_no e u t = lt_false {a = x} {b = y} refl refl (sym (u.same t) ∙ e)

  pub le_yes : p ≡ true → (u : Tests p (le_z x y)) → T u.good → x ≤ℤ y
  le_yes e u t = le_true {a = x} {b = y} refl refl (sym (u.same t) ∙ e)

  pub le_no : p ≡ false → (u : Tests p (le_z x y)) → T u.good → y <ℤ x
  le_no e u t = le_false {a = x} {b = y} refl refl (sym (u.same t) ∙ e)
