-- The accuracy rule for passing (docs/RULES.md, "Passing"): sight with eye and object at 10,800, and what a passing mark says of
-- the exact profile, in fractions of whole numbers, from the road's numbers alone.
use Rattle.std.specs.Prelude.{ℕ, ◌+◌, ◌-◌, ◌^◌, ◌≤◌, ◌<◌, List, ◌⊎◌, ◌≡◌, ℤ, length, get_or, Ok}
use Rattle.terms.specs.Limits.{greatest_farthest, eye_height, passing_object_height}
use Rattle.terms.specs.Answers.{accepted}
use Rattle.road.specs.declared.Road.{Road}
use Rattle.road.specs.Road.{road_verdict}
use Rattle.heights.specs.Heights.{heights_list}
use Rattle.directions.specs.Directions.{forward}
use Rattle.passing.specs.Passing.{passing_answer, passing_list}
use Rattle.exact.specs.ExactSight.{exact_sight}
use Rattle.accuracy.specs.Accuracy.{Accurate}

-- what the mark of station i says of the exact profile, for a passing distance R
abbrev pub Says : Road → ℕ → ℕ → ℕ → Type 0
Says r R i mark =
    -- none: passing is judged, and with eye and object one h-unit higher sight is not below R
    ((mark ≡ 0) × (i + R ≤ r.length) × (R ≤ exact_sight r forward i (eye_height + 1) (passing_object_height + 1) R))
    -- bit 5: passing is judged, and with eye and object one h-unit lower sight is below R
    ⊎ ((mark ≡ 2 ^ 5) × (i + R ≤ r.length) × (exact_sight r forward i (eye_height - 1) (passing_object_height - 1) R < R))
    -- bit 6: the road ends before R does
    ⊎ ((mark ≡ 2 ^ 6) × (r.length < i + R))

-- what holds of a road, the lists lent for its heights, its sights and its passing marks, a station and a passing distance
pub record AccuratePassing (r : Road) (list : List ℤ) (sights marks : List ℕ) (i R : ℕ) : Type 0 where
  -- the accuracy rule at these heights, up to the passing distance
  pub rule : Accurate r list sights forward i eye_height passing_object_height R
  -- Passing marks, over the road's heights, marks stations 0 to N
  pub answer : passing_answer (heights_list r list) R marks ≡ Ok (r.length + 1)
  -- and the station's mark is right to one h-unit
  pub mark : Says r R i (get_or (passing_list (heights_list r list) R marks) i 0)

-- it holds of
abbrev pub PassingAccuracy : Type 0
PassingAccuracy =
    (r : Road) (list : List ℤ) (sights marks : List ℕ) (i R : ℕ)
    -- every accepted road,
    → road_verdict r ≡ accepted
    -- with its own heights, lent as a list of just these N + 1,
    → length list ≡ r.length + 1
    -- and lists of sights and of marks with room for them,
    → r.length + 1 ≤ length sights
    → r.length + 1 ≤ length marks
    -- every station 0 to N,
    → i ≤ r.length
    -- and every passing distance that is not refused
    → 1 ≤ R → R ≤ greatest_farthest
    → AccuratePassing r list sights marks i R
