-- The heights of a road's mirror are the road's in reverse order: the exact ones have the same values, so the stored ones, their
-- floors, are the same.
use Prim.Native.Nat.{ℕ, ◌+◌, ◌-◌, ◌≤◌}
use mathlib.Core.List.{reverse}
use mathlib.Core.Path.{◌≡◌, sym, ap, ◌∙◌}
use native.Mathlib.Omega.{arith}
use lib.IntN.{pos}
use lib.ListN.{length, replicate, length-replicate}
use Rattle.whole.specs.Fill.{filled}
use Rattle.whole.proofs.Floor.{floor_whole}
use Rattle.directions.proofs.Laws.{filled_reversed}
use Rattle.terms.specs.Answers.{accepted}
use Rattle.road.specs.declared.Road.{Road}
use Rattle.road.specs.Road.{curves_of, road_verdict}
use Rattle.road.specs.Order.{InOrder}
use Rattle.road.proofs.Accepted.{accepted_road}
use Rattle.heights.specs.Profile.{exact_height, stored_height}
use Rattle.heights.specs.Heights.{own_heights}
use Rattle.heights.proofs.Filled.{heights_filled}
use Rattle.mirror.specs.Mirror.{mirror}
use Rattle.both_lanes.proofs.Values.{Same, same_floor}
use Rattle.both_lanes.proofs.Behind.{behind, exact_behind}
use Rattle.both_lanes.proofs.Back.{same_back}
use Rattle.both_lanes.proofs.Accepted.{mirror_curves}

-- a road's own heights, by their places
own_filled : (r : Road) → road_verdict r ≡ accepted →
    own_heights r ≡ filled (stored_height r) 0 (r.length + 1) (replicate (r.length + 1) (pos 0))
unfolding own_heights
own_filled r ok = heights_filled r _ ok (omega (arith, length-replicate (r.length + 1) (pos 0)))

module _ (r : Road) (holds : r.count ≤ length r.curves) (ok : road_verdict r ≡ accepted) where
  order : InOrder r.length 0 (curves_of r)
  order = (accepted_road r ok).in_order

  -- the end height is whole before any rounding
  end_height_is : stored_height r r.length ≡ behind 0 r.start_height r.first_grade (curves_of r) r.length
  unfolding stored_height exact_height
  end_height_is = same_floor (exact_behind r.length 0 _ _ (curves_of r) r.length order (omega arith)) ∙ floor_whole _

  mirror_exact : (x : ℕ) → x ≤ r.length → Same (exact_height r (r.length - x)) (exact_height (mirror r) x)
  unfolding exact_height mirror
  mirror_exact x l =
      let twice : r.length - (r.length - x) ≡ x = omega arith in
      rw (end_height_is, mirror_curves r holds)
      (rw twice at (same_back r.length 0 r.start_height r.first_grade (curves_of r) (r.length - x) order (omega arith) (omega arith)))

  pub mirror_height : (x : ℕ) → x ≤ r.length → stored_height (mirror r) x ≡ stored_height r (r.length - x)
  unfolding stored_height
  mirror_height x l = sym (same_floor (mirror_exact x l))

  pub mirror_heights : road_verdict (mirror r) ≡ accepted → own_heights (mirror r) ≡ reverse (own_heights r)
  unfolding mirror
  mirror_heights back =
      let n = r.length + 1 in let none = replicate n (pos 0) in
      let size : length none ≡ n = length-replicate n (pos 0) in
      own_filled (mirror r) back
      ∙ filled_reversed (stored_height (mirror r)) (stored_height r) n none none size size
      (λ i l. let e : r.length - i ≡ n - 1 - i = omega arith in mirror_height i (omega arith) ∙ ap (stored_height r) e)
      ∙ ap reverse (sym (own_filled r ok))
