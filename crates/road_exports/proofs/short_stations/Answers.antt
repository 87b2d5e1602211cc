-- `short_stations` meets its contract: a road that is read has few stations, so their number fits.
use Rattle.std.proofs.Common.{◌≡◌, ◌∙◌, sym, arith}
use Rattle.terms.specs.Limits.{greatest_short_road}
use Rattle.terms.specs.Answers.{accepted}
use Rattle.road.proofs.Accepted.{accepted_road}
use Rattle.file.specs.File.{road_in}
use Rattle.file.specs.Reading.{short_read_verdict}
use Rattle.file.proofs.Sound.{accepted_file, verdict_read, road_read}
use Rattle.road_exports.proofs.short_stations.Goals as goal

pub overflow_add-result : goal.overflow_add-result
overflow_add-result c =
    let file = c.args.file.now in
    let taken : short_read_verdict file ≡ accepted = sym (verdict_read greatest_short_road file _ c.read-read.ensures) ∙ c.in_ok-read.was in
    rw (road_read greatest_short_road file _ c.read-read.ensures taken)
    (omega (arith, (accepted_road (road_in file) (accepted_file file taken).road).length_high))
