-- docs/RULES.md, "The road and its heights" and "Road file": when a road handed over as a value is accepted. The refusals are
-- 3, 4, then 6 to 13 and 25; the lowest curve with a fault decides.
use Rattle.std.specs.Prelude.{ℕ, ◌+◌, ◌-◌, ◌/◌, ◌%◌, min, Bool, not, cond, ◌||◌, ◌&&◌, List, [], ◌∷◌, ltb, eqb, pos, neg_ℤ, ◌-ℤ◌, take}
use Rattle.terms.specs.Answers.{outside, outside_ℤ, grade_outside, refuse, unless, Verdict, accepted}
use Rattle.terms.specs.Limits.{first_version, second_version, least_speed, greatest_speed, first_decision, last_purpose, greatest_short_road, greatest_long_road, lowest_start, highest_start, greatest_curve_count, greatest_curve, greatest_break}
use Rattle.terms.specs.declared.Refusal.TheVariants.{WrongVersion, TooManyCurves, SpeedOutside, WrongPurpose, RoadLengthOutside, StartOutside, GradeOutside, WrongCurveLength, CurveOffRoad, CurvesOverlap, SharpBreak}
use Rattle.road.specs.declared.Curve.{Curve}
use Rattle.road.specs.declared.Road.{Road}

-- a curve reaches half its length to either side of its PVI; it begins and ends there
abbrev pub half : Curve → ℕ
half c = c.length / 2

abbrev pub begin : Curve → ℕ
begin c = c.pvi - half c

abbrev pub end : Curve → ℕ
end c = c.pvi + half c

-- the curves in use: the first n places
abbrev pub curves_of : Road → List Curve
curves_of r = take r.count r.curves

-- an unused curve place
abbrev pub no_curve : Curve
no_curve = record { pvi = 0; length = 0; grade_out = pos 0 }

-- a curve's length is odd or over 2,000
abbrev pub length_outside : Curve → Bool
length_outside c = not (eqb (c.length % 2) 0) || ltb greatest_curve c.length

-- a curve begins before station 0 or ends after n
abbrev pub place_outside : ℕ → Curve → Bool
place_outside n c = ltb c.pvi (half c) || ltb n (end c)

-- where a road starts: a break at station 0 whose grade out is the first grade
abbrev pub start_of : Road → Curve
start_of r = record { pvi = 0; length = 0; grade_out = r.first_grade }

-- a plain break, which is a curve of length 0, whose grades differ by more than 50; its grade in is the grade out of the curve listed
-- just before it
abbrev pub sharp_break : Curve → Curve → Bool
sharp_break before c = eqb c.length 0 && outside_ℤ (neg_ℤ (pos greatest_break)) (pos greatest_break) (c.grade_out -ℤ before.grade_out)

-- one curve of a road of length n, after the one listed just before it: 10, 11, 12, 13, 25
unfoldable pub curve_verdict : ℕ → Curve → Curve → Verdict
curve_verdict n before c =
    refuse (grade_outside c.grade_out) GradeOutside
    (refuse (length_outside c) WrongCurveLength
    (refuse (place_outside n c) CurveOffRoad
    (refuse (ltb (begin c) (end before)) CurvesOverlap
    (refuse (sharp_break before c) SharpBreak accepted))))

-- the curves in turn, each after the one listed just before it; the lowest with a fault decides
unfoldable pub curves_verdict : ℕ → Curve → List Curve → Verdict
curves_verdict n before [] = accepted
curves_verdict n before (c ∷ cs) = unless (curve_verdict n before c) (curves_verdict n c cs)

-- the longest road of a version, in metres
abbrev pub longest_road : ℕ → ℕ
longest_road version = cond (eqb version second_version) greatest_long_road greatest_short_road

-- a road's own numbers, the curves left out, where no road over `most` metres is taken: 6, 7, 8, 9, 10
unfoldable pub numbers_verdict : ℕ → Road → Verdict
numbers_verdict most r =
    refuse (outside least_speed greatest_speed r.speed) SpeedOutside
    (refuse (outside first_decision last_purpose r.purpose) WrongPurpose
    (refuse (outside 1 (min most (longest_road r.version)) r.length) RoadLengthOutside
    (refuse (outside_ℤ lowest_start highest_start r.start_height) StartOutside
    (refuse (grade_outside r.first_grade) GradeOutside accepted))))

-- a road, where none over `most` metres is taken: 3, 4, then its numbers, then its curves, the first of which comes after the road's start
unfoldable pub verdict_up_to : ℕ → Road → Verdict
verdict_up_to most r =
    refuse (outside first_version second_version r.version) WrongVersion
    (refuse (ltb greatest_curve_count r.count) TooManyCurves
    (unless (numbers_verdict most r) (curves_verdict r.length (start_of r) (curves_of r))))

-- whether a road is accepted
abbrev pub road_verdict : Road → Verdict
road_verdict r = verdict_up_to greatest_long_road r

-- whether the lister, the preview and the van's marking take it: none over 8,000 m, which is refused 8 in its place among the others
abbrev pub short_road_verdict : Road → Verdict
short_road_verdict r = verdict_up_to greatest_short_road r
