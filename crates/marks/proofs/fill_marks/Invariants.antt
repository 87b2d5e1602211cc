-- `fill_marks`: the places of the stretch from `i` on are filled.
use Rattle.std.proofs.Common.{◌≡◌, ◌+◌, ◌-◌, ◌≤◌}
use Rattle.whole.specs.Fill.{filled}
use Rattle.marks.specs.Marks.{mark_toward}
use Rattle.marks.proofs.fill_marks.Given as goal

abbrev pub invariant-loop-i : goal.invariant-loop-i
invariant-loop-i l = record {
  from_first : l.first ≤ l.i;
  places : l.list ≡ filled (mark_toward l.heights l.back l.d) l.i (l.first + l.count - l.i) l.fn.list;
}
