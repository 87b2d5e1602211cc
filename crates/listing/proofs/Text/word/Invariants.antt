-- The loop's invariant: the first bytes of the word were written.
use Rattle.std.proofs.Common.{◌≡◌, take}
use Rattle.listing.specs.Put.{put}
use Rattle.listing.proofs.Text.word.Given as goal

abbrev pub invariant-loop-byte : goal.invariant-loop-byte
invariant-loop-byte l = l.self ≡ put l.initial.self (take l.byte-index l.word)
