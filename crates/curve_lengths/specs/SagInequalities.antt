-- What a sag's adequacy says (docs/RULES.md, "How long a sag must be"): the rule's two inequalities as they stand there, without a root.
use Rattle.std.specs.Prelude.{ℕ, ◌+◌, ◌*◌, ◌-◌, ◌≤◌, ◌<◌, ◌↔◌, ◌⊎◌, T}
use Rattle.curve_lengths.specs.Lengths.{sag_adequate}

-- for every rise a, sight distance s and length l, with Q = 12,000 + 350 S: S ≤ L and L Q ≥ a S², or L < S and a (2 S − L) ≤ Q
abbrev pub SagInequalities : Type 0
SagInequalities =
    (a s l : ℕ)
    → let q = 12000 + 350 * s in
    T (sag_adequate a s l)
    ↔ (((s ≤ l) × (a * (s * s) ≤ l * q)) ⊎ ((l < s) × (a * (2 * s - l) ≤ q)))
