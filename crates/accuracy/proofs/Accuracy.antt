-- The accuracy rule. Heights fills the list with the floors of the exact heights; as the driver meets them, in either direction, they are
-- the floors of the exact ones as the driver meets those. So by proofs/Floors.antt of `exact` sight over them lies between the exact ones;
-- and nothing is refused, so both operations answer that sight.
use mathlib.Core.Path.{◌≡◌, ap, ◌∙◌}
use mathlib.Core.Bool.{Bool}
use mathlib.Core.List.{List}
use Prim.Native.Nat.{ℕ, ◌+◌, ◌-◌, ◌≤◌}
use native.Mathlib.Omega.{arith}
use lib.IntN.{ℤ, pos}
use lib.ListN.{length}
use Rattle.whole.specs.Fractions.{Frac}
use Rattle.whole.proofs.Fill.{filled_at}
use Rattle.whole.proofs.Floor.{Floor}
use Rattle.terms.specs.Limits.{greatest_long_road}
use Rattle.std.specs.Prelude.{Ok}
use Rattle.terms.specs.Answers.{accepted}
use Rattle.verdicts.proofs.Laws.{LookInRange}
use Rattle.road.specs.declared.Road.{Road}
use Rattle.road.specs.Road.{road_verdict}
use Rattle.road.proofs.Accepted.{accepted_road}
use Rattle.heights.specs.Profile.{exact_height, stored_height}
use Rattle.heights.specs.Heights.{heights_list}
use Rattle.heights.proofs.Profile.{stored_floor}
use Rattle.heights.proofs.Filled.{heights_number, heights_filled, heights-length}
use Rattle.directions.specs.Directions.{faced, counted}
use Rattle.directions.proofs.Laws.{faced-length, faced_at, counted_below}
use Rattle.sight.specs.Sight.{height_at, available_sight}
use Rattle.sight.specs.Operations.{sight_toward}
use Rattle.sight.proofs.Answers.{sight_number, profile_number, profile_at}
use Rattle.exact.specs.ExactSight.{exact_sight}
use Rattle.exact.proofs.Floors.{exact_le_sight, sight_le_exact}
use Rattle.accuracy.specs.Accuracy.{AccuracyRule}

own_floors : (r : Road) (list : List ℤ) → road_verdict r ≡ accepted → r.length + 1 ≤ length list →
    (k : ℕ) → k ≤ r.length → Floor (exact_height r k) (height_at (heights_list r list) k)
own_floors r list ok room k l =
    let at = filled_at (stored_height r) 0 (r.length + 1) list k (pos 0) (omega arith) (omega arith) (omega arith) in
    rw (heights_filled r list ok room, at) (stored_floor r k)

-- as the driver meets them
met_floors : (r : Road) (list : List ℤ) (back : Bool) → road_verdict r ≡ accepted → length (heights_list r list) ≡ r.length + 1 →
    (k : ℕ) → k ≤ r.length → Floor (exact_height r (counted back (r.length + 1) k)) (height_at (faced back (heights_list r list)) k)
met_floors r list back ok stations k l =
    let own = heights_list r list in let n = r.length + 1 in
    let met = faced_at back own k (pos 0) (omega arith) ∙ ap (λ (m : ℕ). height_at own (counted back m k)) stations in
    let room : n ≤ length list = omega (arith, heights-length r list) in
    rw met (own_floors r list ok room (counted back n k) (omega (arith, counted_below back n k (omega arith))))

pub accuracy : AccuracyRule
unfolding exact_sight sight_toward
accuracy r list sights back i e o far ok size room on e-low e-high o-low o-high far-low far-high =
    let own = heights_list r list in let met = faced back own in let n = r.length + 1 in let place = counted back n i in
    let stations : length own ≡ n = omega (arith, heights-length r list) in
    let last : length met - 1 ≡ r.length = omega (arith, faced-length back own) in
    let short : r.length ≤ greatest_long_road = (accepted_road r ok).length_high in
    let look : LookInRange e o far = record {
      eye = (e-low, e-high);
      object = (o-low, o-high);
      farthest = (far-low, far-high);
    } in
    let exact : ℕ → Frac = λ k. exact_height r (counted back n k) in
    let floors = met_floors r list back ok stations in
    record {
      heights = heights_number r list ok (omega arith);
      sight = sight_toward own back i e o far;
      from_station = sight_number own back i e o far (omega arith) (omega arith) look;
      profile = profile_number own back i e o far (omega arith) (omega arith) look sights (omega arith) ∙ ap Ok stations;
      in_profile = profile_at own back i e o far (omega arith) (omega arith) look sights (omega arith);
      available = ap (λ (m : ℕ). available_sight met (counted back m i) e o far) stations;
      at_least = rw stations (exact_le_sight exact met r.length last floors place e o far e-low o-low);
      at_most = rw stations (sight_le_exact exact met r.length last floors place e o far);
    }
