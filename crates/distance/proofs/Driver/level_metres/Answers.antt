-- `level_metres` meets its contract: the check computes `sheet` from the formula, all of it, and compares it with the code's table; `sheet_at`
-- says what it has at a speed and a purpose.
use Rattle.whole.proofs.Table.{tabulated}
use Rattle.distance.specs.Distance.{level_parts, up_to_five, level_metres}
use Rattle.distance.proofs.Laws.{sheet_at}
use Rattle.distance.proofs.Driver.level_metres.Goals as goal

pub returns : goal.returns
unfolding tabulated level_metres level_parts up_to_five
returns c = let d = c.args.self in rw c.from.ensures (sheet_at d.speed d.purpose d.speed_in.0 d.speed_in.1 d.purpose_in)
