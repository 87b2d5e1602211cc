-- `past_curve` meets its contract: the row along the straight and the row over the curve, end to end, are the exact profile's, rounded down
-- (`filled_past`).
use Rattle.std.proofs.Common.{◌∙◌}
use Rattle.heights.proofs.Along.{filled_past}
use Rattle.heights.proofs.Walk.past_curve.Goals as goal

pub returns-clause-list_after : goal.returns-clause-list_after
returns-clause-list_after c =
    let begins = c.begin-begin.ensures in
    filled_past c.args.self c.args.c _ _ _ _ _ _ c.requires.placed (c.along-foot.ensures.station ∙ begins)
    (rw begins at c.along-foot.ensures.height) c.along-foot.ensures.grade (rw begins at c.fill_straight.ensures) c.fill_curve.ensures
