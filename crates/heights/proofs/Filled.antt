-- What Heights leaves in a list: its length stays; of an accepted road, where there is room, it holds the heights; and its front
-- is then the road's own heights.
use Prim.Native.Nat.{◌+◌, ◌≤◌}
use mathlib.Core.List.{List}
use mathlib.Core.Path.{◌≡◌, ◌∙◌}
use lib.IntN.{ℤ, pos}
use lib.ListN.{length, take, length-replicate}
use Rattle.whole.specs.Fill.{filled}
use Rattle.std.specs.Prelude.{Ok}
use Rattle.terms.specs.Answers.{accepted}
use Rattle.terms.proofs.Laws.{written-length, room_number, ends_front}
use Rattle.road.specs.declared.Road.{Road}
use Rattle.road.specs.Road.{road_verdict}
use Rattle.heights.specs.Profile.{stored_height}
use Rattle.heights.specs.Heights.{heights_answer, heights_list, own_heights}

pub heights-length : (r : Road) (list : List ℤ) → length (heights_list r list) ≡ length list
unfolding heights_list
heights-length r list = written-length (stored_height r) (heights_answer r list) list

pub own_length : (r : Road) → length (own_heights r) ≡ r.length + 1
unfolding own_heights
own_length r = heights-length r _ ∙ length-replicate (r.length + 1) (pos 0)

module _ (r : Road) (list : List ℤ) (accepted : road_verdict r ≡ accepted) (room : r.length + 1 ≤ length list) where
  pub heights_number : heights_answer r list ≡ Ok (r.length + 1)
  unfolding heights_answer
  heights_number = room_number _ _ list accepted room

  pub heights_filled : heights_list r list ≡ filled (stored_height r) 0 (r.length + 1) list
  unfolding heights_list
  heights_filled = rw heights_number

  pub own_front : take (r.length + 1) (heights_list r list) ≡ own_heights r
  unfolding own_heights heights_list heights_answer
  own_front = ends_front _ _ _ list (pos 0) accepted room
