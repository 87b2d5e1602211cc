-- Bytes written behind a text as far as it has room: what the private writers of the listing leave. Private contracts alone cite it:
-- nothing here need be believed.
use Rattle.std.specs.Prelude.{ℕ, ◌+◌, ◌-◌, ◌*◌, ◌/◌, List, [], ◌∷◌, ◌++◌, length, take, get_or}
use Rattle.terms.specs.Limits.{greatest_short_road}
use Rattle.listing.specs.Listing.{joined, line, bit_letters}

-- at most one zone of a bit for two stations
abbrev pub most_zones : ℕ
most_zones = (greatest_short_road + 2) / 2

-- a first line of at most 22 bytes, and for each letter zones with a line of at most 14 bytes
abbrev pub greatest_listing : ℕ
greatest_listing = 22 + 14 * most_zones * length bit_letters

-- as many of the bytes as there is room for stand behind the text
unfoldable pub put : List ℕ → List ℕ → List ℕ
put text bytes = text ++ take (greatest_listing - length text) bytes

-- the lines of zones of a letter, each zone being its first and its last station
abbrev pub pair_lines : ℕ → List (List ℕ) → List ℕ
pair_lines letter zones = joined (λ k. line (letter ∷ []) (get_or zones k [])) (length zones)
