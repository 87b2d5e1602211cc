-- docs/RULES.md, "The lister": the text of a road file, in bytes.
use Rattle.std.specs.Prelude.{ℕ, zero, suc, ◌+◌, ◌*◌, ◌/◌, ◌%◌, ◌≤◌, ◌≡◌, cond, List, [], ◌∷◌, ◌++◌, ltb, length, take, replicate, get_or, Ok, Err}
use Rattle.terms.specs.Answers.{room_for, written, Answer, Verdict}
use Rattle.terms.specs.Refusals.{number}
use Rattle.terms.specs.Limits.{greatest_short_road}
use Rattle.distance.specs.declared.Distances.{Distances}
use Rattle.road.specs.declared.Road.{Road}
use Rattle.directions.specs.Directions.{forward}
use Rattle.road_distances.specs.RoadDistances.{road_distances}
use Rattle.file.specs.declared.ReadRoad.{ReadRoad}
use Rattle.file.specs.File.{letters}
use Rattle.file.specs.Reading.{read_up_to}
use Rattle.road_marks.specs.RoadMarks.{mark_road_list}
use Rattle.zones.specs.Zones.{zone_ends, zone_count}

-- ---- numbers and lines
-- f 0, f 1, … f (n − 1), one behind the other
unfoldable pub joined : (ℕ → List ℕ) → ℕ → List ℕ
joined f zero = []
joined f (suc n) = joined f n ++ f n

-- the digit of the place that counts p, none where the number is below it
unfoldable pub digit : ℕ → ℕ → List ℕ
digit p x = cond (ltb x p) [] ((48 + x / p % 10) ∷ [])

-- one space parts the items of a line, and every line ends with a line feed
abbrev pub space : ℕ
space = 32

abbrev pub line_feed : ℕ
line_feed = 10

-- a space and a number below 100,000, from the ten thousands down to the ones, which are always there
unfoldable pub item : ℕ → List ℕ
item x =
    (space ∷ []) ++ digit 10000 x ++ digit 1000 x ++ digit 100 x ++ digit 10 x ++ ((48 + x % 10) ∷ [])

-- a line of a word and numbers
unfoldable pub line : List ℕ → List ℕ → List ℕ
line word numbers = word ++ joined (λ k. item (get_or numbers k 0)) (length numbers) ++ (line_feed ∷ [])

-- the word refused, and the number
abbrev pub refused_word : List ℕ
refused_word = 114 ∷ 101 ∷ 102 ∷ 117 ∷ 115 ∷ 101 ∷ 100 ∷ []

abbrev pub refused_line : ℕ → List ℕ
refused_line k = line refused_word (k ∷ [])

-- VCP, version, speed, stopping and decision distance
abbrev pub first_line : ℕ → ℕ → Distances → List ℕ
first_line version speed d = line letters (version ∷ speed ∷ d.stopping ∷ d.decision ∷ [])

-- a zone: its letter, its first and its last station
abbrev pub zone_line : ℕ → ℕ → ℕ → List ℕ
zone_line letter first last = line (letter ∷ []) (first ∷ last ∷ [])

-- ---- the text
-- the first n zones of a letter, from their first and last stations in turn
abbrev pub zone_lines : ℕ → List ℕ → ℕ → List ℕ
zone_lines letter ends n = joined (λ k. zone_line letter (get_or ends (2 * k) 0) (get_or ends (2 * k + 1) 0)) n

-- the letters of bits 0 to 4: S D R s d
abbrev pub bit_letters : List ℕ
bit_letters = 83 ∷ 68 ∷ 82 ∷ 115 ∷ 100 ∷ []

-- the zones of bit b of the marks
unfoldable pub bit_lines : List ℕ → ℕ → List ℕ
bit_lines marks b =
    let n = length marks in zone_lines (get_or bit_letters b 0) (zone_ends marks b n) (zone_count marks b n)

-- the zones of all bits that have a letter, in the order of the letters
abbrev pub zones_text : List ℕ → List ℕ
zones_text marks = joined (bit_lines marks) (length bit_letters)

-- the marks of a road, a list of just N + 1
unfoldable pub own_marks : Road → List ℕ
own_marks r = mark_road_list greatest_short_road r forward (replicate (r.length + 1) 0)

-- the first line, and the zones of its marks
unfoldable pub road_text : Road → List ℕ
road_text r = first_line r.version r.speed (road_distances r forward) ++ zones_text (own_marks r)

-- by reading's verdict: the road's text, or the line of the refusal
abbrev pub text_for : Verdict → Road → List ℕ
text_for (Ok _) r = road_text r
text_for (Err refusal) r = refused_line (number refusal)

-- the text of what was read
abbrev pub text_of : ReadRoad → List ℕ
text_of read = text_for read.verdict read.road

-- the listing of a road file, where no road over 8,000 m is taken
unfoldable pub listing : List ℕ → List ℕ
listing file = text_of (read_up_to greatest_short_road file)

-- ---- the operation: refused 14 where the buffer is shorter than the listing, a refusal that the rules leave free; else how many
-- bytes are written
unfoldable pub list_answer : List ℕ → List ℕ → Answer
list_answer file buffer = room_for (length (listing file)) buffer

-- the text from byte 0 on, bytes beyond stay; where it is refused all stay
unfoldable pub list_buffer : List ℕ → List ℕ → List ℕ
list_buffer file buffer = written (λ k. get_or (listing file) k 0) (list_answer file buffer) buffer

-- ---- what the lister's two arrays are asked
-- n bytes of a file are enough: whatever it holds behind them, its listing is that of its first n bytes
abbrev pub EnoughToList : ℕ → Type 0
EnoughToList n = (file : List ℕ) → n ≤ length file → listing (take n file) ≡ listing file

-- n bytes hold any listing
abbrev pub HoldsListings : ℕ → Type 0
HoldsListings n = (file : List ℕ) → length (listing file) ≤ n
