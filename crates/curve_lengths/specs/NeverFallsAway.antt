-- Adequacy never falls away as a curve grows longer (docs/RULES.md, "How long a sag must be"), for crests and for sags.
use Rattle.std.specs.Prelude.{ℕ, ◌≤◌, Bool, T}
use Rattle.curve_lengths.specs.Lengths.{adequate, crest_adequate, sag_adequate}

-- a test that a length passes is passed by each longer one
abbrev pub KeptByLonger : (ℕ → Bool) → Type 0
KeptByLonger test = (l m : ℕ) → l ≤ m → T (test l) → T (test m)

-- it holds of
pub record NeverFallsAway : Type 0 where
  -- every change in grade a, every sight distance s and every Q = u + √w, be it positive or 0
  pub any : (a s u w : ℕ) → KeptByLonger (adequate a s u w)
  -- so every crest, with an eye height e and an object height o
  pub crest : (a s e o : ℕ) → KeptByLonger (crest_adequate a s e o)
  -- and every sag
  pub sag : (a s : ℕ) → KeptByLonger (sag_adequate a s)
