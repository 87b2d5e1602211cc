-- `fill_passing`: the places before `i` are filled.
use Rattle.std.proofs.Common.{◌≡◌}
use Rattle.whole.specs.Fill.{filled}
use Rattle.passing.specs.Passing.{passing_mark}
use Rattle.passing.proofs.fill_passing.Given as goal

abbrev pub invariant-loop-i : goal.invariant-loop-i
invariant-loop-i l = l.list ≡ filled (passing_mark l.heights l.distance) 0 l.i l.fn.list
