-- `put_file` meets its contract: the header, and behind it one record a turn.
use Rattle.std.proofs.Common.{arith, ap, ◌≡◌, length, length-take}
use Rattle.writing.specs.Bytes.{file_up_to}
use Rattle.writing.proofs.Stored.{put_record}
use Rattle.writing.proofs.Writer.put_file.Goals as goal

pub loop-curve-init : goal.loop-curve-init
unfolding file_up_to
loop-curve-init c = c.put_header.ensures

pub loop-curve-preserved : goal.loop-curve-preserved
loop-curve-preserved c =
    put_record c.args.road _ c.loop-curve.curve-index c.curves_in_use-curve-items.ensures c.loop-curve-test.true c.loop-curve.invariant c.put_curve.ensures

pub returns : goal.returns
returns c =
    let size = ap length c.curves_in_use-curve-items.ensures in
    let all : c.loop-curve.curve-index ≡ c.args.road.count = omega (arith, length-take c.args.road.count c.args.road.curves) in
    rw all at c.loop-curve.invariant
