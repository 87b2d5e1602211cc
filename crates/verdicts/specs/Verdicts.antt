-- docs/RULES.md, "What can be seen", "Marks and zones" and "Passing": the refusals of the operations over a list of heights, in their order.
-- n is the number of heights. Where such an operation fills a list, 14 comes behind these.
use Rattle.std.specs.Prelude.{ℕ, leb, ℤ}
use Rattle.terms.specs.Answers.{outside, grade_outside, list_outside, eye_or_object_outside, refuse, Verdict, accepted}
use Rattle.terms.specs.Limits.{least_speed, greatest_speed, first_decision, last_purpose, greatest_farthest}
use Rattle.terms.specs.declared.Refusal.TheVariants.{SpeedOutside, WrongPurpose, GradeOutside, HeightOutside, ListOutside, NoStation, FarthestOutside}

-- the heights of eye and object and the farthest distance: 17, 21
unfoldable pub look_verdict : ℕ → ℕ → ℕ → Verdict
look_verdict e o far =
    refuse (eye_or_object_outside e o) HeightOutside
    (refuse (outside 1 greatest_farthest far) FarthestOutside accepted)

-- sight from one station: 19, 20, 17, 21
unfoldable pub sight_verdict : ℕ → ℕ → ℕ → ℕ → ℕ → Verdict
sight_verdict n i e o far =
    refuse (list_outside n) ListOutside
    (refuse (leb n i) NoStation
    (look_verdict e o far))

-- the sight profile: 19, 17, 21
unfoldable pub profile_verdict : ℕ → ℕ → ℕ → ℕ → Verdict
profile_verdict n e o far = refuse (list_outside n) ListOutside (look_verdict e o far)

-- marks: 6, 7, 10, 19
unfoldable pub marks_verdict : ℕ → ℕ → ℤ → ℕ → Verdict
marks_verdict speed purpose grade n =
    refuse (outside least_speed greatest_speed speed) SpeedOutside
    (refuse (outside first_decision last_purpose purpose) WrongPurpose
    (refuse (grade_outside grade) GradeOutside
    (refuse (list_outside n) ListOutside accepted)))

-- passing marks: 19, 21
unfoldable pub passing_verdict : ℕ → ℕ → Verdict
passing_verdict n R = refuse (list_outside n) ListOutside (refuse (outside 1 greatest_farthest R) FarthestOutside accepted)
