-- The refusal numbers of docs/RULES.md.
use Rattle.std.specs.Prelude.{ℕ}
use Rattle.terms.specs.declared.Refusal.{Refusal}
use Rattle.terms.specs.declared.Refusal.TheVariants.{ShortFile, WrongLetters, WrongVersion, TooManyCurves, WrongTotal, SpeedOutside, WrongPurpose, RoadLengthOutside, StartOutside, GradeOutside, WrongCurveLength, CurveOffRoad, CurvesOverlap, NoRoom, GradeChangeOutside, SightDistanceOutside, HeightOutside, NoLength, ListOutside, NoStation, FarthestOutside, NoBit, NoZoneRoom, ManoeuvreOutside, SharpBreak, NoCurve, LongRoad}

abbrev pub number : Refusal → ℕ
number ShortFile = 1
number WrongLetters = 2
number WrongVersion = 3
number TooManyCurves = 4
number WrongTotal = 5
number SpeedOutside = 6
number WrongPurpose = 7
number RoadLengthOutside = 8
number StartOutside = 9
number GradeOutside = 10
number WrongCurveLength = 11
number CurveOffRoad = 12
number CurvesOverlap = 13
number NoRoom = 14
number GradeChangeOutside = 15
number SightDistanceOutside = 16
number HeightOutside = 17
number NoLength = 18
number ListOutside = 19
number NoStation = 20
number FarthestOutside = 21
number NoBit = 22
number NoZoneRoom = 23
number ManoeuvreOutside = 24
number SharpBreak = 25
number NoCurve = 26
number LongRoad = 27
