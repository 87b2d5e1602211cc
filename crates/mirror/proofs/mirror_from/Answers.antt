-- `mirror_from` meets its contract: by the laws of the curves that are turned one by one, in an accepted road (`turning`).
use Rattle.std.proofs.Common.{rules}
use Rattle.mirror.proofs.Turning.{turning}
use Rattle.mirror.proofs.mirror_from.Goals as goal

pub loop-k-init : goal.loop-k-init
loop-k-init c = search (rules, turning)

pub loop-k-preserved : goal.loop-k-preserved
loop-k-preserved c = search (rules, turning)

pub returns : goal.returns
returns c = search (rules, turning)
