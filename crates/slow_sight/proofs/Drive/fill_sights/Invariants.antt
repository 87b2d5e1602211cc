-- `fill_sights`: the places before the station are filled.
use Rattle.std.proofs.Common.{◌≡◌}
use Rattle.whole.specs.Fill.{filled}
use Rattle.sight.specs.Operations.{sight_toward}
use Rattle.slow_sight.proofs.Drive.fill_sights.Given as goal

abbrev pub invariant-loop-station : goal.invariant-loop-station
invariant-loop-station l = l.sights ≡ filled (λ k. sight_toward l.self.heights.now l.self.back k l.self.look.eye l.self.look.object l.self.look.farthest) 0 l.station l.fn.sights
