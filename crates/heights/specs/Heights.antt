-- docs/RULES.md, "The road and its heights", Heights: the answer, and what the lent list holds at the end.
use Rattle.std.specs.Prelude.{◌+◌, List, ℤ, pos, replicate}
use Rattle.terms.specs.Answers.{unless, room_for, written, Answer}
use Rattle.road.specs.declared.Road.{Road}
use Rattle.road.specs.Road.{road_verdict}
use Rattle.heights.specs.Profile.{stored_height}

-- refused as the road is, then 14; else how many places are written, N + 1
unfoldable pub heights_answer : Road → List ℤ → Answer
heights_answer r list = unless (road_verdict r) (room_for (r.length + 1) list)

-- the first N + 1 places hold the heights of stations 0 to N, the others stay; where it is refused all stay
unfoldable pub heights_list : Road → List ℤ → List ℤ
heights_list r list = written (stored_height r) (heights_answer r list) list

-- a road's own heights: a list of just N + 1, as Heights fills it
unfoldable pub own_heights : Road → List ℤ
own_heights r = heights_list r (replicate (r.length + 1) (pos 0))
