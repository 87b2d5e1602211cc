-- `put_curve` meets its contract: its numbers one behind the other, and the grade fits its width.
use Rattle.std.proofs.Common.{rules, ◌∙◌, FitsSigned}
use Rattle.std.proofs.lemmas.Int.{to_z-of_z}
use Rattle.std.specs.Int.{w16}
use Rattle.writing.specs.Bytes.{curve_bytes}
use Rattle.writing.proofs.Stored.{put_join}
use Rattle.writing.proofs.Writer.put_curve.Goals as goal

pub returns : goal.returns
unfolding curve_bytes
returns c =
    let small : FitsSigned w16 c.args.curve.grade_out = search rules in
    let pvi = rw c.station_bytes-station.ensures at c.put.ensures in
    let length = rw c.from.ensures at c.put-2.ensures in
    let grade = rw (c.from-2.ensures ∙ (simp to_z-of_z at c.cast_unsigned.ensures)) at c.put-3.ensures in
    put_join (put_join pvi length) grade
