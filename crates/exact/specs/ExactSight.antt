-- docs/RULES.md, "What can be seen": the sight distance on the exact parabolas and straights. It is the available sight by the
-- same definition, with the exact heights of all stations 0 to N, as fractions, in place of the stored ones.
use Rattle.std.specs.Prelude.{ℕ, ◌+◌, ◌-◌, Bool}
use Rattle.whole.specs.Fractions.{Frac, raised, ◌+F◌, ◌*F◌, le_f}
use Rattle.directions.specs.Directions.{counted}
use Rattle.road.specs.declared.Road.{Road}
use Rattle.heights.specs.Profile.{exact_height}
use Rattle.sight.specs.Sight.{every_between, sight_from}

-- station k lets the line pass: (height i + e)(j − k) + (height j + o)(k − i) ≥ (height k)(j − i)
unfoldable pub clears_exactly : (ℕ → Frac) → ℕ → ℕ → ℕ → ℕ → ℕ → Bool
clears_exactly h e o i j k = le_f (h k *F (j - i)) (raised (h i) e *F (j - k) +F raised (h j) o *F (k - i))

-- the object at j is seen from i: every station strictly between lets the line pass
unfoldable pub seen_exactly : (ℕ → Frac) → ℕ → ℕ → ℕ → ℕ → Bool
seen_exactly h e o i j = every_between i j (clears_exactly h e o i j)

-- the sight from station i, over any exact heights of stations 0 to last
unfoldable pub exact_sight_over : (ℕ → Frac) → ℕ → ℕ → ℕ → ℕ → ℕ → ℕ
exact_sight_over h last i e o far = sight_from i last far (seen_exactly h e o i)

-- the sight on the exact profile of a road in a direction, the N + 1 stations being counted as the driver meets them
unfoldable pub exact_sight : Road → Bool → ℕ → ℕ → ℕ → ℕ → ℕ
exact_sight r back i e o far =
    let met = counted back (r.length + 1) in exact_sight_over (λ k. exact_height r (met k)) r.length (met i) e o far
