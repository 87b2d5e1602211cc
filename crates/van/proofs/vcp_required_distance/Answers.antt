-- `vcp_required_distance` meets its contract: the operation's answer is small, so it keeps its value in 32 bits.
use Rattle.std.proofs.Common.{◌∙◌, ap}
use Rattle.whole.proofs.Machine.{plain}
use Rattle.terms.specs.Answers.{signed}
use Rattle.distance.proofs.Laws.{required_at_most}
use Rattle.van.proofs.Narrow.{narrows}
use Rattle.van.proofs.vcp_required_distance.Goals as goal

pub overflow_cast-result : goal.overflow_cast-result
overflow_cast-result c = let x = c.args in (
    narrows 870 _ _ (required_at_most x.speed x.purpose x.grade) tt c.signed_answer.type_inv (c.signed_answer.ensures ∙ ap signed (rw (plain c.ranges.grade) at c.required_distance.ensures))).0

pub returns : goal.returns
returns c = let x = c.args in (
    narrows 870 _ _ (required_at_most x.speed x.purpose x.grade) tt c.signed_answer.type_inv (c.signed_answer.ensures ∙ ap signed (rw (plain c.ranges.grade) at c.required_distance.ensures))).1
