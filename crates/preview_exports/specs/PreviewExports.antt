-- What the exported functions that try another length over a road file answer and leave in lent lists: as the operations on the file's
-- road do, unless the file is refused.
use Rattle.std.specs.Prelude.{ℕ, List}
use Rattle.terms.specs.Answers.{unless, kept_unless, Answer, Verdict}
use Rattle.terms.specs.Limits.{greatest_long_road}
use Rattle.file.specs.File.{road_in}
use Rattle.file.specs.Reading.{read_verdict, short_read_verdict}
use Rattle.writing.specs.Writing.{write_answer, write_list}
use Rattle.change.specs.Change.{with_length, change_verdict}
use Rattle.preview.specs.Preview.{preview_answer, preview_first, preview_second}

-- a file whose road is to be changed: reading's refusals, then those of the change
unfoldable pub change_file_verdict : List ℕ → ℕ → ℕ → Verdict
change_file_verdict file k l = unless (read_verdict file) (change_verdict greatest_long_road (road_in file) k l)

-- the file of the changed road, refused so, then as writing it is
unfoldable pub change_file_answer : List ℕ → ℕ → ℕ → List ℕ → Answer
change_file_answer file k l out = unless (change_file_verdict file k l) (write_answer (with_length (road_in file) k l) out)

-- what it leaves in the list
unfoldable pub change_file_list : List ℕ → ℕ → ℕ → List ℕ → List ℕ
change_file_list file k l out = kept_unless (change_file_verdict file k l) (write_list (with_length (road_in file) k l) out) out

-- a file read and its road's preview: refused as reading where no road over 8,000 m is taken, then as the preview
unfoldable pub preview_file_answer : List ℕ → ℕ → ℕ → List ℕ → List ℕ → Answer
preview_file_answer file k l first second = unless (short_read_verdict file) (preview_answer (road_in file) k l first second)

-- what it leaves in the first list, and in the second
unfoldable pub preview_file_first : List ℕ → ℕ → ℕ → List ℕ → List ℕ → List ℕ
preview_file_first file k l first second = kept_unless (short_read_verdict file) (preview_first (road_in file) k l first second) first

unfoldable pub preview_file_second : List ℕ → ℕ → ℕ → List ℕ → List ℕ → List ℕ
preview_file_second file k l first second = kept_unless (short_read_verdict file) (preview_second (road_in file) k l first second) second
