-- docs/RULES.md, "What can be seen": seen, and the available sight, over any heights. `every_between` and `sight_from` ask for no kind
-- of heights: the sight on exact ones (crates/exact/specs/ExactSight.antt) is made of them too.
use Rattle.std.specs.Prelude.{ℕ, zero, suc, ◌+◌, ◌-◌, min, Bool, true, cond, ◌&&◌, List, ℤ, pos, ◌+ℤ◌, ◌*ℤ◌, length, get_or}
use Rattle.std.specs.Int.Signed.{le_z}

-- the height at a station of a list
abbrev pub height_at : List ℤ → ℕ → ℤ
height_at list k = get_or list k (pos 0)

-- station k lets the line pass from the eye, e above station i, to the object, o above station j:
-- (height i + e)(j − k) + (height j + o)(k − i) ≥ (height k)(j − i); touching the road counts as passing
unfoldable pub clears : (ℕ → ℤ) → ℕ → ℕ → ℕ → ℕ → ℕ → Bool
clears h e o i j k =
    le_z (h k *ℤ pos (j - i)) ((h i +ℤ pos e) *ℤ pos (j - k) +ℤ (h j +ℤ pos o) *ℤ pos (k - i))

-- p holds of each number below n
unfoldable pub every : (ℕ → Bool) → ℕ → Bool
every p zero = true
every p (suc n) = p n && every p n

-- p holds of every station strictly between i and j
unfoldable pub every_between : ℕ → ℕ → (ℕ → Bool) → Bool
every_between i j p = every (λ d. p (i + 1 + d)) (j - (i + 1))

-- the object at j is seen from i: every station strictly between lets the line pass
unfoldable pub seen : (ℕ → ℤ) → ℕ → ℕ → ℕ → ℕ → Bool
seen h e o i j = every_between i j (clears h e o i j)

-- the greatest s up to a limit such that p holds of every t from 1 to s: the search stops at the first t that fails
unfoldable pub reach : (ℕ → Bool) → ℕ → ℕ
reach p zero = 0
reach p (suc n) = cond (p 1) (suc (reach (λ t. p (suc t)) n)) 0

-- the sight from station i: the greatest s, at most the farthest distance and at most the stations left to the last, such that
-- the object is seen at every j from i + 1 to i + s
unfoldable pub sight_from : ℕ → ℕ → ℕ → (ℕ → Bool) → ℕ
sight_from i last far seen_at = reach (λ t. seen_at (i + t)) (min far (last - i))

-- the available sight from station i, over a list of the heights of all stations
unfoldable pub available_sight : List ℤ → ℕ → ℕ → ℕ → ℕ → ℕ
available_sight list i e o far = sight_from i (length list - 1) far (seen (height_at list) e o i)
