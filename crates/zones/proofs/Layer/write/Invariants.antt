-- The loop's invariant: the ends at the first `i` stations were written.
use Rattle.whole.specs.Placed.{Wrote}
use Rattle.zones.specs.Zones.{zone_ends}
use Rattle.zones.proofs.Layer.write.Given as goal

abbrev pub invariant-loop-i : goal.invariant-loop-i
invariant-loop-i l = Wrote (zone_ends l.self.marks.now l.self.bit l.i) 0 l.at l.initial.list l.list
