-- The height at the end of an accepted road, in the list that Heights fills.
use Prim.Native.Nat.{◌+◌, ◌<◌}
use mathlib.Core.List.{List}
use mathlib.Core.Path.{◌≡◌, ap, ◌∙◌}
use native.Mathlib.Omega.{arith}
use lib.IntN.{ℤ, pos}
use lib.ListN.{length, get_or}
use lib.Signed.{mag}
use mir.Syntax.{w32}
use mir.Val.{to_z, of_z}
use Rattle.whole.proofs.Fill.{filled_at}
use Rattle.whole.proofs.Machine.{got}
use Rattle.terms.specs.Answers.{accepted}
use Rattle.road.specs.declared.Road.{Road}
use Rattle.road.specs.Road.{road_verdict}
use Rattle.heights.specs.Profile.{stored_height}
use Rattle.heights.specs.Heights.{heights_list}
use Rattle.heights.proofs.Filled.{heights_filled}

-- the last place that Heights fills
last_height : (r : Road) (list : List ℤ) → road_verdict r ≡ accepted → r.length < length list →
    get_or (heights_list r list) r.length (pos 0) ≡ stored_height r r.length
last_height r list accepted room =
    ap (λ (xs : List ℤ). get_or xs r.length (pos 0)) (heights_filled r list accepted (omega arith))
    ∙ filled_at (stored_height r) 0 (r.length + 1) list r.length (pos 0) (omega arith) (omega arith) room

-- what is read there
pub last_read : (r : Road) (list out : List ℤ) → road_verdict r ≡ accepted → r.length < length list → out ≡ heights_list r list →
    mag (get_or out r.length (pos 0)) < 2147483648 →
    to_z w32 (of_z w32 (get_or out r.length (pos 0))) ≡ stored_height r r.length
last_read r list out accepted room e fits =
    got w32 _ fits ∙ ap (λ (xs : List ℤ). get_or xs r.length (pos 0)) e ∙ last_height r list accepted room
