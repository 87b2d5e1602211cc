-- The quick engine compares at most two sight lines for each object station (docs/RULES.md, "What can be seen"). The comparisons are those
-- that the contract of `sight::comparisons` cites, and what is said of its answer is said of that contract (`Learnt`, as in SameSights).
use Rattle.std.specs.Prelude.{ℕ, ◌*◌, ◌≤◌, List, ℤ, length, Ok}
use contract.Lifetimes.{Lfts}
use denote.Triple.Clauses.{AtExit}
use borrow.Fn.Kinds.{Dens, ended_of}
use Rattle.directions.specs.Directions.{faced, counted}
use Rattle.sight.proofs.comparisons.Kinds as counting
use Rattle.sight.proofs.comparisons.Reads.{Learnt as Counting}
use Rattle.sight.specs.Comparisons.{tried, comparisons_at, comparisons}

-- how many object stations the search of a call tries, with heights, a direction, a station and a look: those that
-- the driver meets from the station's place on
abbrev tried_by : (κs : Lfts 1) → Dens κs counting.ps → ℕ
tried_by κs call =
    let list = call.0.now in let back = call.1.0 in let look = call.1.1.1.0 in
    tried (faced back list) (counted back (length list) call.1.1.0) look.eye look.object look.farthest

pub record AtMostTwo : Type 0 where
  -- at most two for each object station
  pub each : (list : List ℤ) (i e j : ℕ) → comparisons_at list i e j ≤ 2
  -- for all that are tried together
  pub together : (list : List ℤ) (i e o far : ℕ) → comparisons list i e o far ≤ 2 * tried list i e o far
  -- and so is every number that is answered to a call
  pub answered : (κs : Lfts 1) (call : Dens κs counting.ps) (n : ℕ) (x : AtExit (ended_of 1 counting.ps counting.r) κs)
      → Counting κs call (Ok n) x
      → n ≤ 2 * tried_by κs call
