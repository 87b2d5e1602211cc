-- `write` meets its contract: the bytes that `put_file` stored are the whole file.
use Rattle.std.proofs.Common.{arith, rules, ◌≤◌, length, sym, ◌∙◌}
use Rattle.file.specs.File.{file_length}
use Rattle.writing.proofs.Stored.{written_file}
use Rattle.writing.proofs.write.Goals as goal

pub returns-clause-list : goal.returns-clause-list
returns-clause-list c =
    let r = c.args.road in
    let accepted = sym c.verdict.ensures ∙ c.in_ok-verdict.was in
    let room : file_length r.version r.count ≤ length c.args.buffer.now = omega arith in
    let written = written_file r accepted _ _ _ room c.put_file.ensures.wrote in
    search (rules, written)
