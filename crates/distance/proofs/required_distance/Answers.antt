-- `required_distance` meets its contract: past the tests of the speed and the grade the metres are at most 870 (`metres_small`), so that
-- their number fits.
use Rattle.std.proofs.Common.{arith, to_z, of_z, w32}
use Rattle.distance.proofs.Laws.{metres_small}
use Rattle.distance.proofs.required_distance.Goals as goal

pub overflow_cast-result : goal.overflow_cast-result
overflow_cast-result c =
    grind (arith, metres_small c.args.speed c.args.purpose (to_z w32 (of_z w32 c.args.grade)) (cc) (cc))
