-- The loop's invariant: the first numbers were written behind the word.
use Rattle.std.proofs.Common.{◌≡◌, get_or}
use Rattle.listing.specs.Listing.{joined, item}
use Rattle.listing.specs.Put.{put}
use Rattle.listing.proofs.Text.line.Given as goal

abbrev pub invariant-loop-number : goal.invariant-loop-number
invariant-loop-number l = l.self ≡ put l.initial.self (joined (λ k. item (get_or l.numbers k 0)) l.number-index)
