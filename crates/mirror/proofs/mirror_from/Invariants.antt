-- `mirror_from`: one curve is turned in each turn, from the first on, and stored before those that are turned already (`Turned`).
use Rattle.mirror.proofs.Turning.{Turned}
use Rattle.mirror.proofs.mirror_from.Given as goal

abbrev pub invariant-loop-k : goal.invariant-loop-k
invariant-loop-k l = Turned l.fn.road l.in_use l.k l.grade l.curves
