-- `mark_up_to`: past the verdict the road is taken, so the list of heights has a place for each of its stations, and marking its front is marking
-- the road (`taken_answer`).
use Rattle.std.proofs.Common.{◌∙◌, sym, arith}
use mir.Syntax.{w32}
use Rattle.whole.proofs.Machine.{got}
use Rattle.road_marks.proofs.Taken.{taken_answer}
use Rattle.road_marks.proofs.mark_up_to.Goals as goal

pub returns-clause-answer : goal.returns-clause-answer
returns-clause-answer g c =
    let taken = sym c.verdict.ensures ∙ c.in_ok-verdict.was in
    let grade = got w32 _ c.road_grade-grade.type_inv ∙ c.road_grade-grade.ensures in
    (rw c.heights.ensures.list at c.marks.ensures.answer)
    ∙ taken_answer _ _ taken (omega arith) _ (omega arith) _ (omega arith) _ _ _ c.args.back _ c.from-speed.ensures c.from-purpose.ensures grade
