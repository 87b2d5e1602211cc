-- docs/RULES.md, "What an operation answers": a list with a row of its places filled, the others stay.
use Rattle.std.specs.Prelude.{ℕ, zero, suc, ◌+◌, List, set}

-- the n places from i on hold f of their index, the others stay
unfoldable pub filled : {A : Type 0} → (ℕ → A) → ℕ → ℕ → List A → List A
filled f i zero xs = xs
filled f i (suc n) xs = set (filled f i n xs) (i + n) (f (i + n))
