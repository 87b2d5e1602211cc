-- `fill_sights`. All laws are said of the heights as the driver meets them, of which `faced_at` says where the code reads each. The invariant
-- of the search: the stations less than `next` metres ahead are all seen, none of them lies above the line to the road at `i + run`, and
-- `rise` is how far that lies above the eye; how many lines are compared by then is proofs/Counted.antt's. The invariant of the walk: the
-- first `k` places are filled, and the comparisons are those of `k` stations. The measure is what is left to the search's end.
use Rattle.std.proofs.Common.{◌≡◌, ◌+◌, ◌-◌, ◌*◌, ◌<◌, ◌≤◌, length, min}
use Rattle.whole.specs.Fill.{filled}
use Rattle.directions.specs.Directions.{faced}
use Rattle.sight.specs.Sight.{height_at}
use Rattle.sight.specs.Operations.{sight_toward}
use Rattle.sight.specs.Comparisons.{total, comparisons_toward}
use Rattle.sight.proofs.Steepest.{rise, Passed}
use Rattle.sight.proofs.Widened.{Small}
use Rattle.sight.proofs.Counted.{Counted}
use Rattle.sight.proofs.fill_sights.Given as goal

abbrev pub invariant-search : goal.invariant-search
invariant-search l = record {
  end_is : l.end ≡ min l.fn.look.farthest (length l.heights - 1 - l.i) + 1;
  within : l.next ≤ l.end;
  behind : l.run < l.next;
  small : Small l.rise;
  few : l.compared ≤ l.initial.compared + 2 * (l.next - 1);
  rises : l.rise ≡ rise (height_at (faced l.back l.heights)) l.fn.look.eye l.i l.run;
  passed : Passed (height_at (faced l.back l.heights)) l.fn.look.eye l.fn.look.object l.i l.run l.next;
  counted : Counted (faced l.back l.heights) l.i l.fn.look.eye l.initial.compared l.compared l.next;
}

abbrev pub decreases-search : goal.decreases-search
decreases-search l = l.end - l.next

abbrev pub invariant-loop-k : goal.invariant-loop-k
invariant-loop-k l = record {
  places : l.sights ≡ filled (λ t. sight_toward l.heights l.back (l.first + t) l.fn.look.eye l.fn.look.object l.fn.look.farthest) 0 l.k l.fn.sights;
  few : l.compared ≤ l.k * 16000;
  counted : l.compared ≡ total (λ t. comparisons_toward l.heights l.back (l.first + t) l.fn.look.eye l.fn.look.object l.fn.look.farthest) l.k;
}
