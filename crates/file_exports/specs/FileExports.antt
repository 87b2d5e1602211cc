-- What the exported functions over a road file answer and leave in a lent list: as the operation on the file's road does,
-- unless the file is refused.
use Rattle.std.specs.Prelude.{ℕ, Bool, List, ℤ, nat_abs, Ok}
use Rattle.terms.specs.Answers.{unless, kept_unless, Answer}
use Rattle.road_distances.specs.RoadDistances.{road_grade}
use Rattle.heights.specs.Heights.{heights_answer, heights_list}
use Rattle.file.specs.File.{road_in}
use Rattle.file.specs.Reading.{read_verdict}
use Rattle.writing.specs.Writing.{write_answer, write_list}

-- a file read and its road written again
unfoldable pub rewrite_answer : List ℕ → List ℕ → Answer
rewrite_answer file out = unless (read_verdict file) (write_answer (road_in file) out)

unfoldable pub rewrite_list : List ℕ → List ℕ → List ℕ
rewrite_list file out = kept_unless (read_verdict file) (write_list (road_in file) out) out

-- a file read and the heights of its road
unfoldable pub file_heights_answer : List ℕ → List ℤ → Answer
file_heights_answer file list = unless (read_verdict file) (heights_answer (road_in file) list)

unfoldable pub file_heights_list : List ℕ → List ℤ → List ℤ
file_heights_list file list = kept_unless (read_verdict file) (heights_list (road_in file) list) list

-- a file read and its road's steepest downgrade in a direction: the grade that the road is marked with, without its sign. That grade is
-- never positive, and towards falling stations never negative
unfoldable pub file_downgrade : List ℕ → Bool → Answer
file_downgrade file back = unless (read_verdict file) (Ok (nat_abs (road_grade (road_in file) back)))
