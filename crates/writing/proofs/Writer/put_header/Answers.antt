-- `put_header` meets its contract: its numbers one behind the other, and each signed one fits its width.
use Rattle.std.proofs.Common.{rules, ◌∙◌, FitsSigned}
use Rattle.std.proofs.lemmas.Int.{to_z-of_z}
use Rattle.std.specs.Int.{w16, w32}
use Rattle.writing.specs.Bytes.{header_bytes}
use Rattle.writing.proofs.Stored.{put_join}
use Rattle.writing.proofs.Writer.put_header.Goals as goal

pub returns : goal.returns
unfolding header_bytes
returns c =
    let fits : FitsSigned w32 c.args.road.start_height = search rules in
    let small : FitsSigned w16 c.args.road.first_grade = search rules in
    let start = rw (simp to_z-of_z at c.cast_unsigned.ensures) at c.put.ensures in
    let grade = rw (c.from.ensures ∙ (simp to_z-of_z at c.cast_unsigned-2.ensures)) at c.put-2.ensures in
    let count = rw c.from-2.ensures at c.put-3.ensures in
    put_join (put_join (put_join c.put_front.ensures start) grade) count
