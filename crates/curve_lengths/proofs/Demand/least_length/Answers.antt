-- A test of the middle moves one end, since a longer curve is long enough where a shorter one is (`searched_lower`,
-- `searched_upper`, by `long_enough_mono` and `never_falls_away`).
-- Where the ends meet they are the first that passes, and the definition has no other answer (`search_by`).
use Rattle.std.proofs.Common.{arith}
use Rattle.curve_lengths.proofs.Laws.{never_falls_away, long_enough_mono, searched_lower, searched_upper, search_by}
use Rattle.curve_lengths.proofs.Demand.least_length.Goals as goal

pub loop-low-preserved-then-is_long_enough : goal.loop-low-preserved-then-is_long_enough
loop-low-preserved-then-is_long_enough c =
    search_by _ _ _ (searched_lower _ _ _ _ c.loop-low.invariant.searched (omega arith) (omega arith) (cc))

pub loop-low-preserved : goal.loop-low-preserved
loop-low-preserved c =
    search_by _ _ _
    (searched_upper _ _ _ _ c.loop-low.invariant.searched (long_enough_mono _ _ (never_falls_away.any _ _ _ _)) (omega arith) (cc))
