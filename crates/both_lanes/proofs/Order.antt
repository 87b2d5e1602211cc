-- Curves in order along a road are in order mirrored: the curves from station x₀ on are those of a road of length n − x₀, and the curve
-- before them is one more behind.
use Prim.Native.Nat.{ℕ, ◌-◌, ◌≤◌}
use mathlib.Core.List.{List, [], ◌∷◌, ◌++◌}
use mathlib.Core.Path.{◌≡◌}
use native.Mathlib.Omega.{arith}
use lib.IntN.{ℤ}
use Rattle.road.specs.declared.Curve.{Curve}
use Rattle.road.specs.Road.{begin, end}
use Rattle.road.specs.Order.{Placed, InOrder}
use Rattle.mirror.specs.Mirror.{turned, mirrored}

-- on a longer road, behind any station up to the begin
pub placed_on : {m n last first : ℕ} {c : Curve} → Placed m last c → m ≤ n → first ≤ begin c → Placed n first c
placed_on p l k = record { even = p.even; from_zero = p.from_zero; before_end = omega (arith, p.before_end); ordered = k }

-- the curves of a road of length m, and one more that begins there or later
more_in_order : (m n last : ℕ) (cs : List Curve) (d : Curve) → InOrder m last cs → last ≤ m → m ≤ n → Placed n m d →
    InOrder n last (cs ++ (d ∷ []))
more_in_order m n last [] d o l k p = (placed_on p (omega arith) (omega (arith, p.ordered)), tt)
more_in_order m n last (c ∷ cs) d o l k p =
    (placed_on o.0 k o.0.ordered, more_in_order m n (end c) cs d o.1 o.0.before_end k p)

module _ (n last : ℕ) (g : ℤ) (c : Curve) (p : Placed n last c) where
  pub turned_begin : begin (turned n g c) ≡ n - end c
  turned_begin = omega (arith, p.from_zero, p.before_end)

  pub turned_end : end (turned n g c) ≡ n - begin c
  turned_end = omega (arith, p.from_zero, p.before_end)

  turned_placed : Placed (n - last) (n - end c) (turned n g c)
  turned_placed = record {
    even = p.even;
    from_zero = omega (arith, p.before_end);
    before_end = omega (arith, p.ordered, turned_end);
    ordered = omega (arith, turned_begin);
  }

pub mirrored_in_order : (n last : ℕ) (g : ℤ) (cs : List Curve) → InOrder n last cs → InOrder (n - last) 0 (mirrored n g cs)
unfolding mirrored
mirrored_in_order n last g [] o = tt
mirrored_in_order n last g (c ∷ cs) o =
    more_in_order (n - end c) (n - last) 0 (mirrored n c.grade_out cs) (turned n g c)
    (mirrored_in_order n (end c) c.grade_out cs o.1) (omega arith) (omega (arith, o.0.ordered)) (turned_placed n last g c o.0)
