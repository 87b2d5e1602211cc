-- The loop's invariant: the lines of the first zones were written.
use Rattle.std.proofs.Common.{◌≡◌, [], ◌∷◌, get_or}
use Rattle.listing.specs.Listing.{joined, line}
use Rattle.listing.specs.Put.{put}
use Rattle.listing.proofs.Text.zone_lines.Given as goal

abbrev pub invariant-loop-zone : goal.invariant-loop-zone
invariant-loop-zone l = l.self ≡ put l.initial.self (joined (λ k. line (l.letter ∷ []) (get_or l.zones k [])) l.zone-index)
