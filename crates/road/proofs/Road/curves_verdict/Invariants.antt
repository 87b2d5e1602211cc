-- `curves_verdict`: the verdict of all curves is that of the curves from the next one on, the one just before them being `before`.
use Rattle.std.proofs.Common.{◌≡◌, drop}
use Rattle.road.specs.Road.{start_of, curves_of, curves_verdict}
use Rattle.road.proofs.Road.curves_verdict.Given as goal

abbrev pub invariant-loop-c : goal.invariant-loop-c
invariant-loop-c l =
    curves_verdict l.fn.self.length (start_of l.fn.self) (curves_of l.fn.self) ≡ curves_verdict l.fn.self.length l.before (drop l.c-index l.c-items)
