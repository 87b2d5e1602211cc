-- `vcp_mark_road_file` meets its contract: the operation's answer is small, so it keeps its value in 32 bits.
use Rattle.std.proofs.Common.{◌∙◌, ap}
use Rattle.terms.specs.Answers.{signed}
use Rattle.terms.specs.Limits.{greatest_short_road}
use Rattle.road_marks.proofs.Small.{mark_file_at_most}
use Rattle.van.proofs.Narrow.{narrows}
use Rattle.van.proofs.vcp_mark_road_file.Goals as goal

pub overflow_cast-result : goal.overflow_cast-result
overflow_cast-result c = let x = c.args in (
    narrows 8001 _ _ (mark_file_at_most greatest_short_road x.file.now x.marks.now) tt c.signed_answer.type_inv (c.signed_answer.ensures ∙ ap signed c.mark_short_road_file.ensures.answer)).0

pub returns-clause-answer : goal.returns-clause-answer
returns-clause-answer c = let x = c.args in (
    narrows 8001 _ _ (mark_file_at_most greatest_short_road x.file.now x.marks.now) tt c.signed_answer.type_inv (c.signed_answer.ensures ∙ ap signed c.mark_short_road_file.ensures.answer)).1
