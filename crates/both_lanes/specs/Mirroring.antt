-- The mirror of a road (docs/RULES.md, "The lane coming back"): when it is accepted, and that the mirror of the mirror is the road. They
-- speak of the definitions that the contract of mirroring cites.
use Rattle.std.specs.Prelude.{◌≤◌, ◌≡◌, length}
use Rattle.terms.specs.Answers.{refuse, outside_ℤ, accepted}
use Rattle.terms.specs.Limits.{lowest_start, highest_start}
use Rattle.terms.specs.declared.Refusal.TheVariants.{StartOutside}
use Rattle.road.specs.declared.Road.{Road}
use Rattle.road.specs.Road.{road_verdict}
use Rattle.round_trip.specs.RoundTrip.{SameRoad}
use Rattle.mirror.specs.Mirror.{mirror}

-- the mirror is refused 9 where its start height is out of range, and accepted elsewhere: by no other number is it refused
abbrev pub MirrorAccepted : Type 0
MirrorAccepted =
    (r : Road)
    -- it holds of every road whose curves are all there
    → r.count ≤ length r.curves
    -- and that is accepted
    → road_verdict r ≡ accepted
    → road_verdict (mirror r) ≡ refuse (outside_ℤ lowest_start highest_start (mirror r).start_height) StartOutside accepted

-- mirrored twice it is the same road
abbrev pub MirroredTwice : Type 0
MirroredTwice =
    (r : Road)
    -- it holds of every road whose curves are all there
    → r.count ≤ length r.curves
    -- and that is accepted, whether its mirror is or not
    → road_verdict r ≡ accepted
    → SameRoad (mirror (mirror r)) r
