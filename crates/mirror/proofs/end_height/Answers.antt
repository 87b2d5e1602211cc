-- `end_height` meets its contract: of an accepted road Heights fills the list, and place N holds the height at station N.
use Rattle.std.proofs.Common.{arith}
use Rattle.heights.proofs.Walked.{accepted_road_length}
use Rattle.mirror.proofs.LastHeight.{last_read}
use Rattle.mirror.proofs.end_height.Goals as goal

pub returns : goal.returns
returns c = last_read c.args.road _ _ c.requires (omega (arith, accepted_road_length c.args.road c.requires)) c.heights.ensures.list (omega arith)
