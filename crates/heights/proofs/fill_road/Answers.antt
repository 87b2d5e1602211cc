-- `fill_road` meets its contract: by the laws of a walk over the curves of an accepted road (`road_steps`).
use Rattle.std.proofs.Common.{rules}
use Rattle.heights.proofs.Walked.{road_steps}
use Rattle.heights.proofs.fill_road.Goals as goal

pub loop-c-init : goal.loop-c-init
loop-c-init c = search (rules, road_steps)

pub past_curve-at-requires-clause-placed : goal.past_curve-at-requires-clause-placed
past_curve-at-requires-clause-placed c = search (rules, road_steps)

pub loop-c-preserved : goal.loop-c-preserved
loop-c-preserved c = search (rules, road_steps)

pub fill_straight-requires : goal.fill_straight-requires
fill_straight-requires c = search (rules, road_steps)

pub returns : goal.returns
returns c = search (rules, road_steps)
