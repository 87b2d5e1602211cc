-- Rounding down: docs/RULES.md, "The road and its heights", the whole number at or next below the exact height, also where the
-- fraction is negative.
use Rattle.std.specs.Prelude.{zero, suc, ◌/◌, ℤ, pos, negsuc}
use Rattle.whole.specs.Fractions.{Frac}

-- n / d rounded down: the greatest whole number not above n / d for a positive d, and 0 where d is not positive.
-- `negsuc n` is −(n + 1), and −(n + 1) / d rounded down is −(n / d + 1)
unfoldable pub floor_div : ℤ → ℤ → ℤ
floor_div n (negsuc d) = pos 0
floor_div n (pos zero) = pos 0
floor_div (pos n) (pos (suc d)) = pos (n / suc d)
floor_div (negsuc n) (pos (suc d)) = negsuc (n / suc d)

-- a fraction rounded down
abbrev pub floor : Frac → ℤ
floor q = floor_div q.num (pos q.den)
