-- docs/RULES.md, "The road and its heights": the exact profile, from the road's numbers alone. An exact height is a fraction
-- of whole numbers, in h-units.
use Rattle.std.specs.Prelude.{ℕ, ◌*◌, ◌-◌, cond, List, [], ◌∷◌, leb, ℤ, pos, ◌+ℤ◌, ◌-ℤ◌, ◌*ℤ◌}
use Rattle.whole.specs.Floor.{floor}
use Rattle.whole.specs.Fractions.{Frac, whole}
use Rattle.road.specs.declared.Curve.{Curve}
use Rattle.road.specs.declared.Road.{Road}
use Rattle.road.specs.Road.{begin, end, half, curves_of}

-- on a straight the height rises by the grade each metre: d metres after the height z, with the grade g
abbrev pub straight : ℤ → ℤ → ℕ → ℤ
straight z g d = z +ℤ g *ℤ pos d

-- on a curve of length L that begins at the height z, d metres after its begin: z + gin d + (gout − gin) d² / (2 L)
abbrev pub on_curve : ℤ → ℤ → ℤ → ℕ → ℕ → Frac
on_curve z gin gout L d = record {
  num = (z +ℤ gin *ℤ pos d) *ℤ pos (2 * L) +ℤ (gout -ℤ gin) *ℤ pos d *ℤ pos d;
  den = 2 * L;
}

-- the height at its end, d = L: z + gin L + (gout − gin) L / 2 = z + (gin + gout) L / 2, a whole number since L is even
abbrev pub end_height : ℤ → ℤ → Curve → ℤ
end_height z gin c = z +ℤ (gin +ℤ c.grade_out) *ℤ pos (half c)

-- from station x₀ at the height z with the grade g, along the curves as listed, to station x: straight to a curve's begin,
-- over the curve, and on from its end with its grade out; after the last curve straight on
unfoldable pub exact_from : ℕ → ℤ → ℤ → List Curve → ℕ → Frac
exact_from x₀ z g [] x = whole (straight z g (x - x₀))
exact_from x₀ z g (c ∷ cs) x =
    let z₁ = straight z g (begin c - x₀) in
    cond (leb x (begin c)) (whole (straight z g (x - x₀)))
    (cond (leb x (end c)) (on_curve z₁ g c.grade_out c.length (x - begin c))
    (exact_from (end c) (end_height z₁ g c) c.grade_out cs x))

-- the exact height at a station: from station 0 with the start height and the first grade
unfoldable pub exact_height : Road → ℕ → Frac
exact_height r x = exact_from 0 r.start_height r.first_grade (curves_of r) x

-- the stored height: the whole number at or next below the exact one
unfoldable pub stored_height : Road → ℕ → ℤ
stored_height r x = floor (exact_height r x)
