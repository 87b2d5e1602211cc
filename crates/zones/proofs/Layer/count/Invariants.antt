-- The loop's invariant: `count` zones begin at the first `i` stations.
use Rattle.std.proofs.Common.{◌≡◌}
use Rattle.zones.specs.Zones.{zone_count}
use Rattle.zones.proofs.Layer.count.Given as goal

abbrev pub invariant-loop-i : goal.invariant-loop-i
invariant-loop-i l = l.count ≡ zone_count l.self.marks.now l.self.bit l.i
