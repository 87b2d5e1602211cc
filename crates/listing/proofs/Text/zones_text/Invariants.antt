-- The loop's invariant: the zones of the bits below `bit` were written.
use Rattle.std.proofs.Common.{◌≡◌}
use Rattle.listing.specs.Listing.{joined, bit_lines}
use Rattle.listing.specs.Put.{put}
use Rattle.listing.proofs.Text.zones_text.Given as goal

abbrev pub invariant-loop-bit : goal.invariant-loop-bit
invariant-loop-bit l = l.self ≡ put l.initial.self (joined (bit_lines l.marks) l.bit)
