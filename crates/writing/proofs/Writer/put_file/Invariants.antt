-- `put_file` meets its contract. The invariant: the header and the first so many records are stored by now.
use Rattle.writing.specs.Bytes.{file_up_to}
use Rattle.writing.specs.Put.{Put}
use Rattle.writing.proofs.Writer.put_file.Given as goal

abbrev pub invariant-loop-curve : goal.invariant-loop-curve
invariant-loop-curve l = Put (file_up_to l.fn.road l.curve-index) l.fn.self l.self
