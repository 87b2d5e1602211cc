-- Both engines give the same (docs/RULES.md, "What can be seen"), for every input, refusals included. It is said of the functions' own
-- contracts: `Learnt` of a function, which Rattle makes of its contract, is what the contract says of a call, of what was handed over, of the
-- answer and of what the lent lists hold at the end.
use Rattle.std.specs.Prelude.{ℕ, List, ◌≡◌}
use contract.Lifetimes.{Lfts}
use denote.Triple.Clauses.{AtExit}
use borrow.Fn.Kinds.{Dens, ended_of}
use Rattle.terms.specs.Answers.{Answer}
use Rattle.sight.proofs.sight.Kinds as sight
use Rattle.sight.proofs.sight.Reads.{Learnt as QuickSight}
use Rattle.sight.proofs.profile.Kinds as profile
use Rattle.sight.proofs.profile.Reads.{Learnt as QuickProfile}
use Rattle.slow_sight.proofs.sight.Reads.{Learnt as SlowSight}
use Rattle.slow_sight.proofs.profile.Reads.{Learnt as SlowProfile}

-- the list of sights among what was lent, as it is at the end
abbrev sights_in : (κs : Lfts 2) → AtExit (ended_of 2 profile.ps profile.r) κs → List ℕ
sights_in κs end = end.1.1.1.0.now

pub record SameSights : Type 0 where
  -- from one station: to the same call both answer the same
  pub alone : (κs : Lfts 1) (call : Dens κs sight.ps) (quick slow : Answer) (x y : AtExit (ended_of 1 sight.ps sight.r) κs)
      → QuickSight κs call quick x
      → SlowSight κs call slow y
      → quick ≡ slow
  -- the profile: to the same call, with the same list lent, both answer the same and leave the same in the list
  pub profile : (κs : Lfts 2) (call : Dens κs profile.ps) (quick slow : Answer) (x y : AtExit (ended_of 2 profile.ps profile.r) κs)
      → QuickProfile κs call quick x
      → SlowProfile κs call slow y
      → (quick ≡ slow) × (sights_in κs x ≡ sights_in κs y)
