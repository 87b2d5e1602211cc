-- A converted file is marked as the first one is (docs/RULES.md, "Converting a file"), by the library and by the van: so an older van shows
-- what a newer one does.
use Rattle.std.specs.Prelude.{ℕ, ◌≤◌, Bool, List, ◌≡◌, length}
use Rattle.terms.specs.Answers.{accepted}
use Rattle.road_marks.specs.RoadMarks.{mark_file_answer, mark_file_list}
use Rattle.conversion.specs.Conversion.{convert_verdict}
use Rattle.there_and_back.specs.ThereAndBack.{converted_length, converted_file}

-- what is said of a limit, a direction, a file, a buffer and a list of marks
pub record SameMarks (most : ℕ) (back : Bool) (s out marks : List ℕ) : Type 0 where
  -- where no road over the limit is taken, marking the converted file answers what marking the first one does
  pub answer : mark_file_answer most (converted_file s out) marks ≡ mark_file_answer most s marks
  -- and leaves the same in the list
  pub list : mark_file_list most (converted_file s out) back marks ≡ mark_file_list most s back marks

-- it holds of
abbrev pub MarkedAlike : Type 0
MarkedAlike =
    -- every limit, which is 8,000 m in the van, and both directions,
    (most : ℕ) (back : Bool) (s out marks : List ℕ)
    -- every file that can be converted,
    → convert_verdict s ≡ accepted
    -- and every buffer with room for the converted one
    → converted_length s ≤ length out
    → SameMarks most back s out marks
