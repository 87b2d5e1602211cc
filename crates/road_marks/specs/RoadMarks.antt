-- docs/RULES.md, "Marks and zones": marking a road, and marking a road file.
use Rattle.std.specs.Prelude.{ℕ, ◌+◌, Bool, List}
use Rattle.terms.specs.Answers.{unless, room_for, written, Answer}
use Rattle.road.specs.declared.Road.{Road}
use Rattle.road.specs.Road.{verdict_up_to}
use Rattle.heights.specs.Heights.{own_heights}
use Rattle.file.specs.File.{road_in}
use Rattle.file.specs.Reading.{read_verdict_up_to}
use Rattle.road_distances.specs.RoadDistances.{road_distances}
use Rattle.marks.specs.Marks.{mark_toward}

-- the mark of station i of a road in a direction: of its own heights, for the distances that it needs
abbrev pub road_mark : Road → Bool → ℕ → ℕ
road_mark r back i = mark_toward (own_heights r) back (road_distances r back) i

-- marking a road as a value, where none over `most` metres is taken: refused as the road is, then 14; else the number of stations,
-- N + 1
unfoldable pub mark_road_answer : ℕ → Road → List ℕ → Answer
mark_road_answer most r marks = unless (verdict_up_to most r) (room_for (r.length + 1) marks)

-- each station's byte is its mark, bytes beyond stay; where it is refused all stay
unfoldable pub mark_road_list : ℕ → Road → Bool → List ℕ → List ℕ
mark_road_list most r back marks = written (road_mark r back) (mark_road_answer most r marks) marks

-- marking a road file: refused as reading is, else as marking its road
unfoldable pub mark_file_answer : ℕ → List ℕ → List ℕ → Answer
mark_file_answer most file marks = unless (read_verdict_up_to most file) (mark_road_answer most (road_in file) marks)

unfoldable pub mark_file_list : ℕ → List ℕ → Bool → List ℕ → List ℕ
mark_file_list most file back marks = written (road_mark (road_in file) back) (mark_file_answer most file marks) marks
