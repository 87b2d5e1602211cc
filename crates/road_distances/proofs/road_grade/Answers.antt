-- `road_grade`: a turn takes one curve more to the steepest so far (`steeper_next`); a grade of 16 bits is the same number in 32.
use Rattle.std.proofs.Common.{◌∙◌, arith, rules, ℤ, get_or}
use mir.Syntax.{w16, w32}
use mir.Val.{SFits}
use Rattle.whole.proofs.Machine.{got}
use Rattle.road.specs.Road.{no_curve}
use Rattle.road_distances.proofs.Laws.{steeper_next}
use Rattle.road_distances.proofs.road_grade.Goals as goal

pub loop-c-preserved : goal.loop-c-preserved
loop-c-preserved c =
    let l = c.loop-c in
    let out : ℤ = (get_or c.curves_in_use-c-items.result.now l.c-index no_curve).grade_out in
    let fits : SFits w16 out = search rules in
    let wide = got w32 _ c.from.type_inv ∙ c.from.ensures ∙ got w16 out fits.sfits in
    l.invariant ∙ steeper_next _ _ _ c.curves_in_use-c-items.result.now l.c-index (omega arith) (got w32 _ c.steeper-steepest.type_inv ∙ rw wide at c.steeper-steepest.ensures)
