-- A buffer that the listing fits holds it, and the answer is its length.
use Prim.Native.Nat.{ℕ, ◌≤◌}
use mathlib.Core.List.{List}
use mathlib.Core.Path.{◌≡◌}
use borrow.Author.Tests.{le-ltb}
use lib.ListN.{length, take}
use Rattle.whole.proofs.Placed.{take-filled}
use Rattle.std.specs.Result.{result_unwrap_or}
use Rattle.std.proofs.lemmas.List.{length-take-le}
use Rattle.listing.specs.Listing.{listing, list_answer, list_buffer}

pub listing_whole : (file text : List ℕ) → length (listing file) ≤ length text → let n = result_unwrap_or (list_answer file text) 0 in
    (n ≤ length text) × (take n (list_buffer file text) ≡ listing file)
unfolding list_answer list_buffer
listing_whole file text l = rw (le-ltb (length text) (length (listing file)) l) (l, take-filled 0 (listing file) text l)

pub ruleset whole_listing = (listing_whole, length-take-le)
