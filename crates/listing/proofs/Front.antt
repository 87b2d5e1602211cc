-- The lister reads no more of a file than is enough to read its road: the listing goes by what was read.
use mathlib.Core.Path.{ap}
use Rattle.terms.specs.Limits.{greatest_short_road}
use Rattle.file.specs.Reading.{enough_bytes}
use Rattle.file.proofs.Overlong.{read_front}
use Rattle.listing.specs.Listing.{text_of, listing, EnoughToList}

pub listing_front : EnoughToList enough_bytes
unfolding listing
listing_front file l = ap text_of (read_front greatest_short_road file l)
