-- `curves` meets its contract: one store a turn. The invariant: the first k places are filled with the records.
use Rattle.std.proofs.Common.{◌≡◌, replicate}
use Rattle.whole.specs.Fill.{filled}
use Rattle.terms.specs.Limits.{greatest_curve_count}
use Rattle.road.specs.Road.{no_curve}
use Rattle.file.specs.File.{curve_at}
use Rattle.file.proofs.Checked.curves.Given as goal

abbrev pub invariant-loop-k : goal.invariant-loop-k
invariant-loop-k l = l.curves ≡ filled (curve_at l.self.version l.self.file.now) 0 l.k (replicate greatest_curve_count no_curve)
