-- `fill_curve`: the stations before the `d`th after this one are filled, the rest is as it was.
use Rattle.std.proofs.Common.{◌-◌, ◌+◌, ◌≤◌, ◌≡◌}
use Rattle.whole.specs.Fill.{filled}
use Rattle.heights.specs.Walk.{height_over}
use Rattle.heights.proofs.Walk.fill_curve.Given as goal

abbrev pub invariant-loop-d : goal.invariant-loop-d
invariant-loop-d l = (l.d ≤ l.c.length + 1) × (l.list ≡ filled (height_over l.self l.c) (l.self.station + 1) (l.d - 1) l.fn.list)
