-- `vcp_crest_length` meets its contract: the operation's answer is small, so it keeps its value in 32 bits.
use Rattle.std.proofs.Common.{◌∙◌, ap}
use Rattle.terms.specs.Answers.{signed}
use Rattle.terms.specs.Limits.{greatest_answered_length}
use Rattle.curve_lengths.proofs.Laws.{crest_length_at_most}
use Rattle.van.proofs.Narrow.{narrows}
use Rattle.van.proofs.vcp_crest_length.Goals as goal

pub overflow_cast-result : goal.overflow_cast-result
overflow_cast-result c = let x = c.args in (
    narrows greatest_answered_length _ _ (crest_length_at_most x.speed x.drop x.sight x.eye x.object) tt c.signed_answer.type_inv (c.signed_answer.ensures ∙ ap signed c.crest_length.ensures)).0

pub returns : goal.returns
returns c = let x = c.args in (
    narrows greatest_answered_length _ _ (crest_length_at_most x.speed x.drop x.sight x.eye x.object) tt c.signed_answer.type_inv (c.signed_answer.ensures ∙ ap signed c.crest_length.ensures)).1
