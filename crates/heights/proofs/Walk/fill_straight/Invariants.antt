-- `fill_straight`: the stations after this one up to the one before `x` are filled, the rest is as it was.
use Rattle.std.proofs.Common.{◌-◌, ◌+◌, ◌≤◌, ◌≡◌}
use Rattle.whole.specs.Fill.{filled}
use Rattle.heights.specs.Walk.{height_along}
use Rattle.heights.proofs.Walk.fill_straight.Given as goal

abbrev pub invariant-loop-x : goal.invariant-loop-x
invariant-loop-x l = (l.x ≤ l.to + 1) × (l.list ≡ filled (height_along l.self) (l.self.station + 1) (l.x - (l.self.station + 1)) l.fn.list)
