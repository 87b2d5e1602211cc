-- `fill_road`: before the curves that are left the walk stands at the end of the last one passed, with the heights filled up to there (`Walked`).
use Rattle.heights.proofs.Walked.{Walked}
use Rattle.heights.proofs.fill_road.Given as goal

abbrev pub invariant-loop-c : goal.invariant-loop-c
invariant-loop-c l = Walked l.fn.road l.c-items l.c-index l.at.station l.at.height l.at.grade l.initial.list l.list
