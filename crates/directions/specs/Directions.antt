-- docs/RULES.md, "The lane coming back": the direction of travel. `back` is true towards falling stations.
use Rattle.std.specs.Prelude.{ℕ, ◌-◌, Bool, true, false, cond, List, reverse, ℤ, neg_ℤ}
use Rattle.terms.specs.Answers.{grade_outside}

-- towards rising stations
abbrev pub forward : Bool
forward = false

-- towards falling stations
abbrev pub backward : Bool
backward = true

-- heights in the order in which a driver meets them
abbrev pub faced : Bool → List ℤ → List ℤ
faced back list = cond back (reverse list) list

-- the place of station k of n in that order, and the station at place k: towards falling stations counted from the other end
abbrev pub counted : Bool → ℕ → ℕ → ℕ
counted back n k = cond back (n - 1 - k) k

-- a grade, handed over as for rising stations, as it is driven: towards falling stations it changes its sign; one out of range, which
-- is refused, stays
unfoldable pub driven_grade : Bool → ℤ → ℤ
driven_grade back g = cond (grade_outside g) g (cond back (neg_ℤ g) g)
