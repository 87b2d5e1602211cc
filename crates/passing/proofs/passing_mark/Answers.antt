-- `passing_mark`: where passing is judged, the sight was searched for up to the distance, and tells whether it is lacking; where it is not
-- judged, it is not lacking.
use Rattle.std.proofs.Common.{◌≡◌, arith}
use mathlib.Core.Bool.{◌&&◌}
use borrow.Author.Tests.{le-leb, lt-leb}
use Rattle.terms.specs.Limits.{eye_height, passing_object_height}
use Rattle.directions.specs.Directions.{forward}
use Rattle.sight.proofs.Toward.{toward_forward}
use Rattle.marks.specs.Marks.{judged, lacking_at}
use Rattle.marks.proofs.Mark.{sight_value}
use Rattle.passing.specs.Passing.{passing_mark}
use Rattle.passing.proofs.Laws.{shifted}
use Rattle.passing.proofs.passing_mark.Goals as goal
use Rattle.passing.proofs.passing_mark.Goals.{then-judged, else-judged}

pub returns : goal.returns
unfolding passing_mark
returns c =
    let hs = c.args.heights.now in let i = c.args.i in let R = c.args.distance in
    let seen = sight_value hs i eye_height passing_object_height forward R c.requires.2 c.requires.0 (omega arith) (omega arith) c.requires.1 in
    let lacking : c.if-judged.lacking ≡ (judged hs R i && lacking_at eye_height passing_object_height hs R i) =
    elim c.if-judged.branch [
      | then-judged w ↦
          simp (w.lacking-is, le-leb _ _ w.if-judged.true, w.value_or_zero.ensures, w.sight.ensures, seen, toward_forward hs i eye_height passing_object_height R)
      | else-judged w ↦ simp (w.lacking-is, lt-leb _ _ w.if-judged.false)
    ] in
    rw (c.from.ensures, c.from-2.ensures, lacking) (shifted (judged hs R i) (lacking_at eye_height passing_object_height hs R i))
