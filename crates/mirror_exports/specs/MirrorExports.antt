-- What the exported function that mirrors a file's road answers and leaves in the lent list.
use Rattle.std.specs.Prelude.{ℕ, List}
use Rattle.terms.specs.Answers.{unless, kept_unless, Answer, Verdict}
use Rattle.file.specs.File.{road_in}
use Rattle.file.specs.Reading.{read_verdict}
use Rattle.writing.specs.Writing.{write_answer, write_list}
use Rattle.mirror.specs.Mirror.{mirror, mirror_verdict}

-- a file whose road is to be mirrored: reading's refusals, then those of mirroring it
unfoldable pub mirror_file_verdict : List ℕ → Verdict
mirror_file_verdict file = unless (read_verdict file) (mirror_verdict (road_in file))

-- the file of the mirror, refused so, then as writing it is
unfoldable pub mirror_file_answer : List ℕ → List ℕ → Answer
mirror_file_answer file out = unless (mirror_file_verdict file) (write_answer (mirror (road_in file)) out)

-- what it leaves in the list
unfoldable pub mirror_file_list : List ℕ → List ℕ → List ℕ
mirror_file_list file out = kept_unless (mirror_file_verdict file) (write_list (mirror (road_in file)) out) out
