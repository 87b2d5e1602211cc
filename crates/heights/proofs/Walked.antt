-- A walk over the curves of an accepted road, in turn: what holds at each curve's end, how one curve more keeps it, and that
-- the straight after the last curve completes the heights.
use Prim.Native.Nat.{ℕ, ◌+◌, ◌-◌, ◌≤◌, ◌<◌}
use mathlib.Core.List.{List, [], ◌∷◌}
use mathlib.Core.Path.{◌≡◌, refl, sym, ap, ◌∙◌}
use borrow.Author.Tests.{le-leb}
use native.Mathlib.Numerals.{add-one}
use native.Mathlib.Omega.{arith}
use lib.IntN.{ℤ, nat_abs}
use lib.ListN.{length, drop, get_or, set, drop_of_length-le}
use lib.Seq.{drop-cons}
use mir.Syntax.{w16, w32}
use mir.Val.{to_z, of_z}
use Rattle.whole.specs.Fill.{filled}
use Rattle.whole.specs.Floor.{floor}
use Rattle.whole.specs.Fractions.{whole}
use Rattle.whole.proofs.Fill.{filled_none, filled_next, filled_then}
use Rattle.whole.proofs.Floor.{floor_whole}
use Rattle.whole.proofs.Int.{var, reps, eq_by}
use Rattle.whole.proofs.Range.{known_r, same_by, range_size, read_size}
use Rattle.whole.proofs.Table.{Each}
use Rattle.terms.specs.Limits.{lowest_start, highest_start, greatest_grade, greatest_long_road}
use Rattle.terms.specs.Answers.{accepted}
use Rattle.road.specs.declared.Curve.{Curve}
use Rattle.road.specs.declared.Road.{Road}
use Rattle.road.specs.Road.{begin, end, curves_of, road_verdict}
use Rattle.road.specs.Order.{Placed, InOrder, CurveInRange}
use Rattle.road.proofs.Accepted.{SoundRoad, accepted_road}
use Rattle.heights.specs.Walk.{StraightTo}
use Rattle.heights.specs.Profile.{straight, end_height, exact_from, exact_height, stored_height}
use Rattle.heights.proofs.Along.{exact_past, exact_upto}

-- before the curves cs from place k on the walk stands at station x, at the height z, with the grade g onward: the heights after station 0 are filled up to there,
-- and from there the exact profile goes on by these curves, in order and in their ranges
pub record Walked (r : Road) (cs : List Curve) (k x : ℕ) (z g : ℤ) (first list : List ℤ) : Type 0 where
  pub so_far : list ≡ filled (stored_height r) 1 x first
  pub ahead : (y : ℕ) → x < y → exact_height r y ≡ exact_from x z g (drop k cs) y
  pub in_order : InOrder r.length x (drop k cs)
  pub in_range : Each CurveInRange (drop k cs)
  pub on_road : x ≤ r.length

-- ---- the start
-- no metre on, the height is the same
pub straight_none : (z g : ℤ) → straight z g 0 ≡ z
straight_none z g = let v = var z in let w = var g in eq_by (search reps) v (omega arith)

from_start : (z g : ℤ) (cs : List Curve) → exact_from 0 z g cs 0 ≡ whole z
unfolding exact_from
from_start z g [] = ap whole (straight_none z g)
from_start z g (c ∷ cs) = rw (le-leb 0 (begin c) (omega arith)) (ap whole (straight_none z g))

pub stored_start : (r : Road) → r.start_height ≡ stored_height r 0
unfolding stored_height exact_height
stored_start r =
    sym (ap floor (from_start r.start_height r.first_grade (curves_of r)) ∙ floor_whole r.start_height)

pub walked_none : (r : Road) (first : List ℤ) → SoundRoad greatest_long_road r → Walked r (curves_of r) 0 0 r.start_height r.first_grade first first
unfolding exact_height
walked_none r first s = record {
  so_far = filled_none (stored_height r) 1 first;
  ahead = λ y l. refl;
  in_order = s.in_order;
  in_range = s.in_range;
  on_road = omega arith;
}

-- ---- one curve more
module _ (r : Road) (c : Curve) (cs : List Curve) (k x : ℕ) (z g : ℤ) (first list : List ℤ) (w : Walked r cs k x z g first list)
    (next : drop k cs ≡ c ∷ drop (k + 1) cs) where
  next_in_order : Placed r.length x c × InOrder r.length (end c) (drop (k + 1) cs)
  next_in_order = rw next at w.in_order

  next_in_range : CurveInRange c × Each CurveInRange (drop (k + 1) cs)
  next_in_range = rw next at w.in_range

  pub walked_more : (out : List ℤ) →
      out ≡ filled (λ y. floor (exact_from x z g (c ∷ []) y)) (x + 1) (end c - x) list →
      Walked r cs (k + 1) (end c) (end_height (straight z g (begin c - x)) g c) c.grade_out first out
  unfolding stored_height
  walked_more out e =
      let order : x ≤ end c = omega (arith, next_in_order.0.ordered) in
      record {
        so_far =
            filled_then (stored_height r) _ (stored_height r) 1 x (x + 1) (end c - x) (end c) first list out
            w.so_far e (omega arith) (omega arith) (λ y _ _. refl)
            (λ y l u. ap floor (sym (exact_upto _ _ _ c _ y (omega arith)) ∙ sym (rw next at (w.ahead y (omega arith)))));
        ahead = λ y l. (rw next at (w.ahead y (omega arith))) ∙ exact_past _ _ _ c _ y l;
        in_order = next_in_order.1;
        in_range = next_in_range.1;
        on_road = next_in_order.0.before_end;
      }

-- ---- the straight after the last
pub walked_all : (r : Road) (cs : List Curve) (k x : ℕ) (z g : ℤ) (entry list out : List ℤ) → drop k cs ≡ [] →
    Walked r cs k x z g (set entry 0 r.start_height) list → out ≡ filled (λ y. straight z g (y - x)) (x + 1) (r.length - x) list →
    out ≡ filled (stored_height r) 0 (r.length + 1) entry
unfolding stored_height exact_from
walked_all r cs k x z g entry list out none w e =
    let f = stored_height r in let first = set entry 0 r.start_height in
    let on : x ≤ r.length = w.on_road in
    let after =
    filled_then f _ f 1 x (x + 1) (r.length - x) r.length first list out
    w.so_far e (omega arith) (omega arith) (λ y _ _. refl)
    (λ y l u. sym (floor_whole _) ∙ ap floor (sym (rw none at (w.ahead y (omega arith))))) in
    filled_then f f f 0 1 1 r.length (r.length + 1) entry first out
    (filled_next f 0 entry entry r.start_height (filled_none f 0 entry) (stored_start r)) after (omega arith) (omega arith)
    (λ y _ _. refl) (λ y _ _. refl)

-- ---- the same, as `fill_road` meets it: the road is accepted, and of its curves those from place k on are left
module _ (r : Road) (e : road_verdict r ≡ accepted) where
  sound : SoundRoad greatest_long_road r
  sound = accepted_road r e

  pub accepted_road_length : r.length ≤ greatest_long_road
  accepted_road_length = sound.length_high

  pub start_size : nat_abs (to_z w32 (of_z w32 r.start_height)) ≤ nat_abs highest_start
  start_size = read_size w32 r.start_height _ (range_size {a = nat_abs lowest_start} r.start_height (omega arith) sound.start_low sound.start_high)

  pub first_grade_size : nat_abs (to_z w16 (of_z w16 r.first_grade)) ≤ greatest_grade
  first_grade_size = read_size w16 r.first_grade _ (range_size {a = greatest_grade} r.first_grade (omega arith) sound.grade_low sound.grade_high)

  start_read : to_z w32 (of_z w32 r.start_height) ≡ r.start_height
  start_read = same_by (known_r w32 r.start_height (nat_abs highest_start) (range_size {a = nat_abs lowest_start} r.start_height (omega arith) sound.start_low sound.start_high)) tt

  pub road_begun : (cs : List Curve) (x : ℕ) (z g : ℤ) (first : List ℤ) → cs ≡ curves_of r → x ≡ 0 → z ≡ r.start_height → g ≡ r.first_grade →
      Walked r cs 0 x z g first first
  road_begun cs x z g first p q s t = rw (p, q, s, t) (walked_none r first sound)

  module _ (cs : List Curve) (k x : ℕ) (z g : ℤ) (first list : List ℤ) (w : Walked r cs k x z g first list) where
    pub road_straight : StraightTo x r.length
    road_straight = record { ahead = w.on_road; on_road = sound.length_high }

    module _ (more : k < length cs) (d : Curve) where
      next : drop k cs ≡ get_or cs k d ∷ drop (k + 1) cs
      next = rw add-one (drop-cons cs k d more)

      pub road_curve : CurveInRange (get_or cs k d)
      road_curve = (next_in_range r _ cs k x z g first list w next).0

      pub road_placed : Placed greatest_long_road x (get_or cs k d)
      road_placed =
          let p = (next_in_order r _ cs k x z g first list w next).0 in let long = sound.length_high in
          record { even = p.even; from_zero = p.from_zero; before_end = omega arith; ordered = p.ordered }

      pub road_more : (y : ℕ) (h f : ℤ) (out : List ℤ) → y ≡ end (get_or cs k d) →
          h ≡ end_height (straight z g (begin (get_or cs k d) - x)) g (get_or cs k d) → f ≡ (get_or cs k d).grade_out →
          out ≡ filled (λ u. floor (exact_from x z g (get_or cs k d ∷ []) u)) (x + 1) (end (get_or cs k d) - x) list →
          Walked r cs (k + 1) y h f first out
      road_more y h f out p q s t = rw (p, q, s) (walked_more r _ cs k x z g first list w next out t)

  pub road_filled : (cs : List Curve) (k x : ℕ) (z g : ℤ) (entry first list out : List ℤ) → Walked r cs k x z g first list →
      first ≡ set entry 0 (to_z w32 (of_z w32 r.start_height)) → length cs ≤ k →
      out ≡ filled (λ y. straight z g (y - x)) (x + 1) (r.length - x) list →
      out ≡ filled (stored_height r) 0 (r.length + 1) entry
  road_filled cs k x z g entry first list out w s all p =
      walked_all r cs k x z g entry list out (drop_of_length-le cs all) (rw (s, start_read) at w) p

-- ---- for `fill_road`
pub ruleset road_steps = (accepted_road_length, road_begun, road_straight, road_curve, road_placed, road_more, road_filled)
