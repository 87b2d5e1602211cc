-- docs/RULES.md, "Converting a file": a road file of either version made into one of the other, with the same road apart from its version.
use Rattle.std.specs.Prelude.{ℕ, Bool, cond, ◌&&◌, List, ltb, eqb}
use Rattle.terms.specs.Answers.{refuse, unless, kept_unless, Answer, Verdict, accepted}
use Rattle.terms.specs.Limits.{first_version, second_version, greatest_short_road}
use Rattle.terms.specs.declared.Refusal.TheVariants.{LongRoad}
use Rattle.road.specs.declared.Road.{Road}
use Rattle.file.specs.File.{road_in}
use Rattle.file.specs.Reading.{read_verdict}
use Rattle.writing.specs.Writing.{write_answer, write_list}

-- the version that a file of this one is converted to: 1 for 2, else 2
abbrev pub other_version : ℕ → ℕ
other_version version = cond (eqb version second_version) first_version second_version

-- the same road apart from its version: all else stays
unfoldable pub in_version : ℕ → Road → Road
in_version version r = record {
  version = version;
  speed = r.speed;
  purpose = r.purpose;
  length = r.length;
  start_height = r.start_height;
  first_grade = r.first_grade;
  count = r.count;
  curves = r.curves;
}

-- the road that the converted file holds
abbrev pub converted : Road → Road
converted r = in_version (other_version r.version) r

-- a road is over 8,000 m and version 1 is wanted
abbrev pub too_long_for : ℕ → Road → Bool
too_long_for wanted r = eqb wanted first_version && ltb greatest_short_road r.length

-- whether a file can be converted: reading's refusals, then 27
unfoldable pub convert_verdict : List ℕ → Verdict
convert_verdict file =
    let r = road_in file in
    unless (read_verdict file) (refuse (too_long_for (other_version r.version) r) LongRoad accepted)

-- converting: refused so, then as writing the converted road is, which is by 14 alone (`AfterReading` of `there_and_back`); else how many
-- bytes are written
unfoldable pub convert_answer : List ℕ → List ℕ → Answer
convert_answer file out = unless (convert_verdict file) (write_answer (converted (road_in file)) out)

-- what the buffer holds: what writing the converted road leaves in it; where converting is refused it stays
unfoldable pub convert_list : List ℕ → List ℕ → List ℕ
convert_list file out = kept_unless (convert_verdict file) (write_list (converted (road_in file)) out) out
