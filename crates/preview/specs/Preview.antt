-- docs/RULES.md, "Trying another length": the preview, which marks a road as it is and as changed and counts where the marks differ.
use Rattle.std.specs.Prelude.{ℕ, zero, suc, ◌+◌, Bool, cond, List, ltb, eqb, length, Ok}
use Rattle.terms.specs.Answers.{refuse, unless, kept_unless, Answer, Verdict, accepted}
use Rattle.terms.specs.Limits.{greatest_short_road}
use Rattle.terms.specs.declared.Refusal.TheVariants.{NoRoom}
use Rattle.road.specs.declared.Road.{Road}
use Rattle.directions.specs.Directions.{forward}
use Rattle.road_marks.specs.RoadMarks.{road_mark, mark_road_list}
use Rattle.change.specs.Change.{with_length, change_verdict}

-- at how many of the stations 0 to n − 1 two ways of marking differ
unfoldable pub differing : (ℕ → ℕ) → (ℕ → ℕ) → ℕ → ℕ
differing f g zero = 0
differing f g (suc n) = differing f g n + cond (eqb (f n) (g n)) 0 1

-- a lent list has fewer than N + 1 places, one for each station of the road
abbrev pub too_short : Road → List ℕ → Bool
too_short r list = ltb (length list) (r.length + 1)

-- of a road, a place, a new length and two lent lists: the refusals of the change, where no road over 8,000 m is taken, then 14 for the
-- first list, then 14 for the second
unfoldable pub preview_verdict : Road → ℕ → ℕ → List ℕ → List ℕ → Verdict
preview_verdict r k l first second =
    unless (change_verdict greatest_short_road r k l)
    (refuse (too_short r first) NoRoom
    (refuse (too_short r second) NoRoom accepted))

-- at how many of the road's stations the marks of the changed road differ from its own
unfoldable pub preview_answer : Road → ℕ → ℕ → List ℕ → List ℕ → Answer
preview_answer r k l first second =
    unless (preview_verdict r k l first second)
    (Ok (differing (road_mark r forward) (road_mark (with_length r k l) forward) (r.length + 1)))

-- the first list holds what marking the road leaves in it; where the preview is refused it stays
unfoldable pub preview_first : Road → ℕ → ℕ → List ℕ → List ℕ → List ℕ
preview_first r k l first second = kept_unless (preview_verdict r k l first second) (mark_road_list greatest_short_road r forward first) first

-- the second likewise holds what marking the changed road leaves in it
unfoldable pub preview_second : Road → ℕ → ℕ → List ℕ → List ℕ → List ℕ
preview_second r k l first second = kept_unless (preview_verdict r k l first second) (mark_road_list greatest_short_road (with_length r k l) forward second) second
