-- docs/RULES.md, "Marks and zones": the zones of a bit, all longest runs of stations with that bit.
use Rattle.std.specs.Prelude.{ℕ, zero, suc, ◌+◌, ◌*◌, ◌/◌, ◌%◌, ◌^◌, ◌≤◌, Bool, not, cond, ◌&&◌, List, [], ◌∷◌, ◌++◌, ltb, eqb, length, get_or, Ok, Err}
use Rattle.whole.specs.Fill.{filled}
use Rattle.terms.specs.Answers.{list_outside, refuse, Answer}
use Rattle.terms.specs.Limits.{last_bit, greatest_list}
use Rattle.terms.specs.declared.Refusal.TheVariants.{NoBit, ListOutside, NoZoneRoom}

-- the mark of station i has the bit; beyond the last station there is none
unfoldable pub has_bit : List ℕ → ℕ → ℕ → Bool
has_bit marks b i = eqb (get_or marks i 0 / 2 ^ b % 2) 1

-- a zone begins at station i: it has the bit, and no station just before it has
unfoldable pub begins_at : List ℕ → ℕ → ℕ → Bool
begins_at marks b zero = has_bit marks b 0
begins_at marks b (suc i) = has_bit marks b (suc i) && not (has_bit marks b i)

-- a zone ends at station i: it has the bit, and the next station has not
unfoldable pub ends_at : List ℕ → ℕ → ℕ → Bool
ends_at marks b i = has_bit marks b i && not (has_bit marks b (i + 1))

-- the station alone where the test holds, else none
abbrev pub only : Bool → ℕ → List ℕ
only test i = cond test (i ∷ []) []

-- of the first n stations, ascending, those at which a zone begins or ends: first, last, first, last, …
unfoldable pub zone_ends : List ℕ → ℕ → ℕ → List ℕ
zone_ends marks b zero = []
zone_ends marks b (suc n) = zone_ends marks b n ++ (only (begins_at marks b n) n ++ only (ends_at marks b n) n)

-- how many zones begin at the first n stations
unfoldable pub zone_count : List ℕ → ℕ → ℕ → ℕ
zone_count marks b zero = 0
zone_count marks b (suc n) = zone_count marks b n + cond (begins_at marks b n) 1 0

-- refused 22, 19, then 23 where the list holds fewer than two numbers for each zone; else the number of zones
unfoldable pub zones_answer : List ℕ → ℕ → List ℕ → Answer
zones_answer marks b zones =
    let count = zone_count marks b (length marks) in
    refuse (ltb last_bit b) NoBit
    (refuse (list_outside (length marks)) ListOutside
    (refuse (ltb (length zones) (2 * count)) NoZoneRoom
    (Ok count)))

-- two places for each zone, its first and its last station
abbrev pub pairs_written : List ℕ → Answer → List ℕ → List ℕ
pairs_written ends (Ok count) zones = filled (λ k. get_or ends k 0) 0 (2 * count) zones
pairs_written ends (Err k) zones = zones

-- the zones from place 0 on, ascending, numbers beyond stay; where it is refused all stay
unfoldable pub zones_list : List ℕ → ℕ → List ℕ → List ℕ
zones_list marks b zones = pairs_written (zone_ends marks b (length marks)) (zones_answer marks b zones) zones

-- ---- what the private `write` asks, which its contract alone cites: the marks are not too many, and the list has two places for each zone
pub record ZonesFit (marks : List ℕ) (b : ℕ) (zones : List ℕ) : Type 0 where
  pub short : length marks ≤ greatest_list
  pub room : 2 * zone_count marks b (length marks) ≤ length zones
