-- docs/RULES.md, "What can be seen": how many sight lines the quick search compares. It asks of each object station first whether the
-- road itself is seen there, since then the object is too, and asks whether the object is seen only where the road is not.
use Rattle.std.specs.Prelude.{ℕ, zero, suc, ◌+◌, ◌-◌, min, Bool, cond, List, ℤ, length, Ok}
use Rattle.terms.specs.Answers.{unless, Answer}
use Rattle.verdicts.specs.Verdicts.{sight_verdict}
use Rattle.directions.specs.Directions.{faced, counted}
use Rattle.sight.specs.Sight.{height_at, seen, available_sight}

-- f 0 + … + f (n − 1)
unfoldable pub total : (ℕ → ℕ) → ℕ → ℕ
total f zero = 0
total f (suc n) = total f n + f n

-- how many object stations a search from station i tries: those that are seen, and the first hidden one where there is one
unfoldable pub tried : List ℤ → ℕ → ℕ → ℕ → ℕ → ℕ
tried list i e o far = min (available_sight list i e o far + 1) (min far (length list - 1 - i))

-- the comparisons for the object station j: one where the road itself is seen there, which is an object of height 0, else two
unfoldable pub comparisons_at : List ℤ → ℕ → ℕ → ℕ → ℕ
comparisons_at list i e j = cond (seen (height_at list) e 0 i j) 1 2

-- those from station i: for each object station that is tried
unfoldable pub comparisons : List ℤ → ℕ → ℕ → ℕ → ℕ → ℕ
comparisons list i e o far = total (λ t. comparisons_at list i e (i + 1 + t)) (tried list i e o far)

-- those from station i in a direction, over the heights as the driver meets them
unfoldable pub comparisons_toward : List ℤ → Bool → ℕ → ℕ → ℕ → ℕ → ℕ
comparisons_toward list back i e o far = comparisons (faced back list) (counted back (length list) i) e o far

-- refused as sight from one station is
unfoldable pub comparisons_answer : List ℤ → Bool → ℕ → ℕ → ℕ → ℕ → Answer
comparisons_answer list back i e o far = unless (sight_verdict (length list) i e o far) (Ok (comparisons_toward list back i e o far))
