-- The answer of marking a road or a road file is at most one more than the longest road that is taken.
use Prim.Native.Nat.{ℕ, ◌+◌}
use mathlib.Core.List.{List}
use native.Mathlib.Omega.{arith}
use lib.Dec.{ltb}
use lib.ListN.{length}
use Rattle.terms.proofs.Laws.{AtMost, refuse_at_most, unless_at_most}
use Rattle.road.specs.declared.Road.{Road}
use Rattle.road.specs.Road.{verdict_up_to}
use Rattle.road.proofs.Accepted.{accepted_road}
use Rattle.file.specs.File.{road_in}
use Rattle.file.specs.Reading.{read_verdict_up_to}
use Rattle.road_marks.specs.RoadMarks.{mark_road_answer, mark_file_answer}

module _ (most : ℕ) where
  mark_road_at_most : (r : Road) (marks : List ℕ) → AtMost (most + 1) (mark_road_answer most r marks)
  unfolding mark_road_answer
  mark_road_at_most r marks =
      unless_at_most (verdict_up_to most r) _ _ (λ e.
      refuse_at_most (ltb (length marks) (r.length + 1)) _ _ _ (λ t.
      omega (arith, (accepted_road r e).length_high)))

  pub mark_file_at_most : (file marks : List ℕ) → AtMost (most + 1) (mark_file_answer most file marks)
  unfolding mark_file_answer
  mark_file_at_most file marks =
      unless_at_most (read_verdict_up_to most file) _ _ (λ _. mark_road_at_most (road_in file) marks)
