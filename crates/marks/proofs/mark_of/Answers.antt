-- `mark_of`: where a distance is judged, the sight was searched for up to the larger of the two, and `mark_by_answer` says that it makes the
-- mark; where neither is, the mark does not depend on the sight.
use Rattle.std.proofs.Common.{◌∙◌, arith, ap}
use Rattle.std.proofs.lemmas.Bool.Decides.{nat_tests}
use Rattle.terms.specs.Answers.{value_or_zero}
use Rattle.terms.specs.Limits.{greatest_farthest}
use Rattle.marks.proofs.Mark.{mark_by_answer}
use Rattle.marks.proofs.mark_of.Goals as goal
use Rattle.marks.proofs.mark_of.Goals.{then-stopping_judged, else-stopping_judged, then-judged, else-judged}

pub returns : goal.returns
returns c =
    let a = c.args in let by = mark_by_answer a.heights.now a.back a.i c.counted-place.result a.d in
    c.compose.ensures
    ∙ (elim c.if-judged.branch [
      | then-judged w ↦
          by _ _ c.requires.1 c.requires.0 c.counted-place.ensures (omega arith) (omega arith) (omega arith)
          (λ t. w.s-is ∙ w.value_or_zero-s.ensures ∙ ap value_or_zero w.sight.ensures)
      | else-judged w ↦
          by greatest_farthest _ c.requires.1 c.requires.0 c.counted-place.ensures (omega arith) (omega arith) (omega arith)
          (λ t.
          elim c.if-stopping_judged.branch [
            | then-stopping_judged v ↦ absurd (grind (arith, nat_tests))
            | else-stopping_judged v ↦ absurd (grind (arith, nat_tests))
          ])
    ])
