-- The third demand, the accuracy rule (docs/RULES.md, "What can be seen"): the sight that is answered is the available sight over the
-- road's own heights, and lies between the sight distances on the exact parabolas and straights with eye and object 1 h-unit lower
-- and 1 h-unit higher. It speaks of the definitions that the contracts of Heights, Sight from one station and Sight profile cite.
use Rattle.std.specs.Prelude.{ℕ, ◌+◌, ◌-◌, ◌≤◌, Bool, List, ◌≡◌, ℤ, length, get_or, Ok}
use Rattle.terms.specs.Limits.{greatest_height, greatest_farthest}
use Rattle.terms.specs.Answers.{accepted}
use Rattle.road.specs.declared.Road.{Road}
use Rattle.road.specs.Road.{road_verdict}
use Rattle.heights.specs.Heights.{heights_answer, heights_list}
use Rattle.directions.specs.Directions.{faced, counted}
use Rattle.sight.specs.Sight.{available_sight}
use Rattle.sight.specs.Operations.{sight_answer, profile_answer, profile_list}
use Rattle.exact.specs.ExactSight.{exact_sight}

-- what the rule says of a road, the lists lent for its heights and for its sights, a direction, a station, an eye and an object height
-- and a farthest distance
pub record Accurate (r : Road) (list : List ℤ) (sights : List ℕ) (back : Bool) (i e o far : ℕ) : Type 0 where
  -- Heights fills the list with the heights of stations 0 to N
  pub heights : heights_answer r list ≡ Ok (r.length + 1)
  -- Sight from one station, over these heights, answers a number
  pub sight : ℕ
  pub from_station : sight_answer (heights_list r list) back i e o far ≡ Ok sight
  -- Sight profile, over these heights, writes the same number for the station
  pub profile : profile_answer (heights_list r list) e o far sights ≡ Ok (r.length + 1)
  pub in_profile : get_or (profile_list (heights_list r list) back e o far sights) i 0 ≡ sight
  -- it is the available sight over these heights, towards falling stations with the stations counted from the other end
  pub available : sight ≡ available_sight (faced back (heights_list r list)) (counted back (r.length + 1) i) e o far
  -- it is at least the sight distance on the exact parabolas and straights with e − 1 and o − 1, also where that makes 0
  pub at_least : exact_sight r back i (e - 1) (o - 1) far ≤ sight
  -- and at most that with e + 1 and o + 1, also where that makes 50,001
  pub at_most : sight ≤ exact_sight r back i (e + 1) (o + 1) far

-- the rule holds of
abbrev pub AccuracyRule : Type 0
AccuracyRule =
    (r : Road) (list : List ℤ) (sights : List ℕ) (back : Bool) (i e o far : ℕ)
    -- every accepted road,
    → road_verdict r ≡ accepted
    -- with its own heights, lent as a list of just these N + 1,
    → length list ≡ r.length + 1
    -- and a list of sights with room for them,
    → r.length + 1 ≤ length sights
    -- towards rising and towards falling stations,
    -- every station 0 to N,
    → i ≤ r.length
    -- every eye and object height and every farthest distance that are not refused
    → 1 ≤ e → e ≤ greatest_height
    → 1 ≤ o → o ≤ greatest_height
    → 1 ≤ far → far ≤ greatest_farthest
    → Accurate r list sights back i e o far
