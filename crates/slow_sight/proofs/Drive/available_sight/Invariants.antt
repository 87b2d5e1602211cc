-- `available_sight`. The invariant of the outer loop: the object is seen at every station up to `s` metres ahead, and `s` is within the
-- limit. That of the inner loop: every station from `i + 1` on before `k` lets the line to the object at `j` pass. The measure is what is left
-- to the limit.
use Rattle.std.proofs.Common.{◌+◌, ◌-◌, ◌≤◌, ◌<◌, ◌≡◌, true, length, min}
use lib.Dec.{T}
use Rattle.directions.specs.Directions.{faced}
use Rattle.sight.specs.Sight.{height_at, clears, seen}
use Rattle.sight.proofs.Seen.{Between}
use Rattle.slow_sight.proofs.Drive.available_sight.Given as goal

abbrev pub invariant-objects : goal.invariant-objects
invariant-objects l = record {
  limit_is : l.limit ≡ min l.self.look.farthest (length l.self.heights.now - 1 - l.i);
  within : l.s ≤ l.limit;
  seen_all : Between (λ t. T (seen (height_at (faced l.self.back l.self.heights.now)) l.self.look.eye l.self.look.object l.i (l.i + t))) 0 (l.s + 1);
}

abbrev pub decreases-objects : goal.decreases-objects
decreases-objects l = l.limit - l.s

abbrev pub invariant-loop-k : goal.invariant-loop-k
invariant-loop-k l = record {
  from : l.i < l.k;
  pass_all : Between (λ k. clears (height_at (faced l.self.back l.self.heights.now)) l.self.look.eye l.self.look.object l.i l.j k ≡ true) l.i l.k;
}
