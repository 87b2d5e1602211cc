-- docs/RULES.md, "Passing": a station's passing mark, and the passing marks of heights.
use Rattle.std.specs.Prelude.{ℕ, ◌+◌, not, ◌&&◌, List, ℤ, length}
use Rattle.terms.specs.Answers.{unless, room_for, written, Answer}
use Rattle.terms.specs.Limits.{eye_height, passing_object_height}
use Rattle.verdicts.specs.Verdicts.{passing_verdict}
use Rattle.marks.specs.Marks.{judged, lacking_at, bit}

-- the passing mark of station i for a passing distance R, eye and object both at 10,800. Bit 5 (P): passing judged and lacking. Bit 6
-- (p): passing not judged. The other bits are 0
unfoldable pub passing_mark : List ℤ → ℕ → ℕ → ℕ
passing_mark heights R i =
    let passingJudged = judged heights R i in
    let passingLacking = lacking_at eye_height passing_object_height heights R i in
    bit 5 (passingJudged && passingLacking) + bit 6 (not passingJudged)

-- passing marks from heights and a passing distance: refused 19, 21, then 14; else how many bytes are written
unfoldable pub passing_answer : List ℤ → ℕ → List ℕ → Answer
passing_answer heights R marks = let n = length heights in unless (passing_verdict n R) (room_for n marks)

-- each station's byte is its passing mark, bytes beyond stay; where it is refused all stay
unfoldable pub passing_list : List ℤ → ℕ → List ℕ → List ℕ
passing_list heights R marks = written (passing_mark heights R) (passing_answer heights R marks) marks
