-- docs/RULES.md, "Marks and zones": a station's mark, and the marks of heights.
use Rattle.std.specs.Prelude.{ℕ, ◌+◌, ◌-◌, ◌^◌, Bool, not, cond, ◌&&◌, List, ltb, leb, ℤ, length}
use Rattle.terms.specs.Answers.{unless, room_for, written, Answer}
use Rattle.terms.specs.Limits.{eye_height, object_height}
use Rattle.verdicts.specs.Verdicts.{marks_verdict}
use Rattle.distance.specs.declared.Distances.{Distances}
use Rattle.distance.specs.Distance.{distances_for}
use Rattle.directions.specs.Directions.{faced, counted, driven_grade}
use Rattle.sight.specs.Sight.{available_sight}

-- station i is judged for a required distance R: i + R is at most the last station
abbrev pub judged : List ℤ → ℕ → ℕ → Bool
judged heights R i = leb (i + R) (length heights - 1)

-- from an eye at height e, sight of an object at height o is below R, with R itself as the farthest distance
abbrev pub lacking_at : ℕ → ℕ → List ℤ → ℕ → ℕ → Bool
lacking_at e o heights R i = ltb (available_sight heights i e o R) R

-- a mark with this one bit, where the test holds
abbrev pub bit : ℕ → Bool → ℕ
bit b test = cond test (2 ^ b) 0

-- a mark of five bits, the lowest first
abbrev pub marked : Bool → Bool → Bool → Bool → Bool → ℕ
marked b₀ b₁ b₂ b₃ b₄ = bit 0 b₀ + bit 1 b₁ + bit 2 b₂ + bit 3 b₃ + bit 4 b₄

-- the mark of station i for a stopping and a decision distance. Bit 0 (S): stopping judged and lacking. Bit 1 (D): decision
-- judged and lacking. Bit 2 (R): decision judged and lacking while stopping is judged and there. Bit 3 (s): stopping not
-- judged. Bit 4 (d): decision not judged. Bits 5 to 7 are 0
unfoldable pub mark_of : List ℤ → Distances → ℕ → ℕ
mark_of heights d i =
    let stoppingJudged = judged heights d.stopping i in
    let decisionJudged = judged heights d.decision i in
    let stoppingLacking = lacking_at eye_height object_height heights d.stopping i in
    let decisionLacking = lacking_at eye_height object_height heights d.decision i in
    marked
    (stoppingJudged && stoppingLacking)
    (decisionJudged && decisionLacking)
    (decisionJudged && decisionLacking && (stoppingJudged && not stoppingLacking))
    (not stoppingJudged)
    (not decisionJudged)

-- the mark of station i in a direction: of the heights as the driver meets them, at the place where the station then is
unfoldable pub mark_toward : List ℤ → Bool → Distances → ℕ → ℕ
mark_toward heights back d i = mark_of (faced back heights) d (counted back (length heights) i)

-- the mark of station i for a speed, a purpose and a grade, which is handed over as for rising stations
abbrev pub mark_for : ℕ → ℕ → ℤ → List ℤ → Bool → ℕ → ℕ
mark_for speed purpose grade heights back i = mark_toward heights back (distances_for speed purpose (driven_grade back grade)) i

-- marks from a speed, a decision purpose, a grade and heights: refused 6, 7, 10, 19, then 14; else how many bytes are written
unfoldable pub marks_answer : ℕ → ℕ → ℤ → List ℤ → List ℕ → Answer
marks_answer speed purpose grade heights marks =
    let n = length heights in unless (marks_verdict speed purpose grade n) (room_for n marks)

-- each station's byte is its mark, bytes beyond stay; where it is refused all stay
unfoldable pub marks_list : ℕ → ℕ → ℤ → List ℤ → Bool → List ℕ → List ℕ
marks_list speed purpose grade heights back marks =
    written (mark_for speed purpose grade heights back) (marks_answer speed purpose grade heights marks) marks
