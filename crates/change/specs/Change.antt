-- docs/RULES.md, "Trying another length": a road with another length at one of its curves, and when that is accepted.
use Rattle.std.specs.Prelude.{ℕ, leb, get_or, set}
use Rattle.terms.specs.Answers.{refuse, unless, Verdict}
use Rattle.terms.specs.declared.Refusal.TheVariants.{NoCurve}
use Rattle.road.specs.declared.Curve.{Curve}
use Rattle.road.specs.declared.Road.{Road}
use Rattle.road.specs.Road.{no_curve, verdict_up_to}

-- a curve with another length; its PVI and its grade out stay
abbrev pub of_length : ℕ → Curve → Curve
of_length l c = record { pvi = c.pvi; length = l; grade_out = c.grade_out }

-- the changed road: its curve at place k, counted from 0, has length l; all else stays
unfoldable pub with_length : Road → ℕ → ℕ → Road
with_length r k l = record {
  version = r.version;
  speed = r.speed;
  purpose = r.purpose;
  length = r.length;
  start_height = r.start_height;
  first_grade = r.first_grade;
  count = r.count;
  curves = set r.curves k (of_length l (get_or r.curves k no_curve));
}

-- the refusals of the road as it is, where none over `most` metres is taken, then 26 for a place beyond its last curve, then the refusals
-- of the changed road
unfoldable pub change_verdict : ℕ → Road → ℕ → ℕ → Verdict
change_verdict most r k l =
    unless (verdict_up_to most r)
    (refuse (leb r.count k) NoCurve
    (verdict_up_to most (with_length r k l)))
