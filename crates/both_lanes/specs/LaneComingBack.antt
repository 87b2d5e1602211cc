-- The lane coming back (docs/RULES.md, "The lane coming back"): the backward marks of a road are the forward marks of its mirror in reverse
-- order, and the other way round. It speaks of the definitions that the contracts of marking a road and of mirroring cite.
use Rattle.std.specs.Prelude.{ℕ, ◌+◌, ◌≤◌, List, reverse, ◌≡◌, length, Ok}
use Rattle.terms.specs.Answers.{accepted}
use Rattle.directions.specs.Directions.{forward, backward}
use Rattle.road.specs.declared.Road.{Road}
use Rattle.road.specs.Road.{road_verdict}
use Rattle.road_marks.specs.RoadMarks.{mark_road_answer, mark_road_list}
use Rattle.mirror.specs.Mirror.{mirror}

-- what is said of a road, a limit of its length and a list lent for marks
pub record BothLanes (r : Road) (most : ℕ) (marks : List ℕ) : Type 0 where
  -- marking the road and marking its mirror each answer the number of stations
  pub road_marked : mark_road_answer most r marks ≡ Ok (r.length + 1)
  pub mirror_marked : mark_road_answer most (mirror r) marks ≡ Ok (r.length + 1)
  -- the road's backward marks are its mirror's forward marks in reverse order,
  pub road_back : mark_road_list most r backward marks ≡ reverse (mark_road_list most (mirror r) forward marks)
  -- and its mirror's backward marks are the road's forward marks in reverse order
  pub mirror_back : mark_road_list most (mirror r) backward marks ≡ reverse (mark_road_list most r forward marks)

-- it holds of
abbrev pub LaneComingBack : Type 0
LaneComingBack =
    (r : Road) (most : ℕ) (marks : List ℕ)
    -- every road whose curves are all there
    → r.count ≤ length r.curves
    -- and that is accepted,
    → road_verdict r ≡ accepted
    -- as its mirror is,
    → road_verdict (mirror r) ≡ accepted
    -- every limit that it does not exceed,
    → r.length ≤ most
    -- and every list of just N + 1 places
    → length marks ≡ r.length + 1
    → BothLanes r most marks
