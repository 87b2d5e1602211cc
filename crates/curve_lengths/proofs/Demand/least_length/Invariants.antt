-- A binary search over half lengths. The invariant: no half length below `low` is long enough, and `high` is long enough or past the
-- last. The measure is what lies between.
use Rattle.std.proofs.Common.{◌-◌}
use Rattle.curve_lengths.specs.Lengths.{adequate, long_enough}
use Rattle.curve_lengths.proofs.Laws.{Search}
use Rattle.curve_lengths.proofs.Demand.least_length.Given as goal

abbrev pub invariant-loop-low : goal.invariant-loop-low
invariant-loop-low l =
    let d = l.self in Search (long_enough d.speed (adequate d.change d.sight d.whole d.under_root)) l.low l.high

abbrev pub decreases-loop-low : goal.decreases-loop-low
decreases-loop-low l = l.high - l.low
