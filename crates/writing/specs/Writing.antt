-- docs/RULES.md, "Road file": writing.
use Rattle.std.specs.Prelude.{ℕ, List}
use Rattle.terms.specs.Answers.{unless, room_for, written, Answer}
use Rattle.road.specs.declared.Road.{Road}
use Rattle.road.specs.Road.{road_verdict}
use Rattle.file.specs.File.{byte_at, file_length}
use Rattle.writing.specs.Bytes.{file_bytes}

-- writing: refused as the road is, then 14; else how many bytes are written
unfoldable pub write_answer : Road → List ℕ → Answer
write_answer r buffer = unless (road_verdict r) (room_for (file_length r.version r.count) buffer)

-- the file's bytes from byte 0 on, bytes beyond stay; where it is refused all stay
unfoldable pub write_list : Road → List ℕ → List ℕ
write_list r buffer = written (byte_at (file_bytes r)) (write_answer r buffer) buffer
