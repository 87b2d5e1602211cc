-- docs/RULES.md, "What can be seen", Sight from one station and Sight profile: the answers, and what the lent list holds at the
-- end.
use Rattle.std.specs.Prelude.{ℕ, Bool, List, ℤ, length, Ok}
use Rattle.terms.specs.Answers.{unless, room_for, written, Answer}
use Rattle.verdicts.specs.Verdicts.{sight_verdict, profile_verdict}
use Rattle.directions.specs.Directions.{faced, counted}
use Rattle.sight.specs.Sight.{available_sight}

-- the sight from station i in a direction: the available sight over the heights as the driver meets them, from the place where the
-- station then is; towards falling stations that is the same rule with the stations counted from the other end
unfoldable pub sight_toward : List ℤ → Bool → ℕ → ℕ → ℕ → ℕ → ℕ
sight_toward list back i e o far = available_sight (faced back list) (counted back (length list) i) e o far

-- sight from one station: refused 19, 20, 17, 21
unfoldable pub sight_answer : List ℤ → Bool → ℕ → ℕ → ℕ → ℕ → Answer
sight_answer list back i e o far = unless (sight_verdict (length list) i e o far) (Ok (sight_toward list back i e o far))

-- the sight profile: refused 19, 17, 21, 14; else how many places are written, one for each station
unfoldable pub profile_answer : List ℤ → ℕ → ℕ → ℕ → List ℕ → Answer
profile_answer list e o far sights = unless (profile_verdict (length list) e o far) (room_for (length list) sights)

-- each station's place holds its own sight, later places stay; where it is refused all stay
unfoldable pub profile_list : List ℤ → Bool → ℕ → ℕ → ℕ → List ℕ → List ℕ
profile_list list back e o far sights = written (λ i. sight_toward list back i e o far) (profile_answer list e o far sights) sights
