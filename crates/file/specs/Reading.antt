-- docs/RULES.md, "Road file": reading, and how much of a file is enough to read.
use Rattle.std.specs.Prelude.{ℕ, ◌+◌, ◌≤◌, Bool, not, ◌||◌, List, ◌≡◌, ltb, eqb, length, take, Ok, Err}
use Rattle.terms.specs.Answers.{outside, refuse, unless, Verdict, accepted}
use Rattle.terms.specs.Limits.{first_version, second_version, greatest_curve_count, greatest_short_road, greatest_long_road}
use Rattle.terms.specs.declared.Refusal.TheVariants.{ShortFile, WrongLetters, WrongVersion, TooManyCurves, WrongTotal}
use Rattle.road.specs.declared.Road.{Road}
use Rattle.road.specs.Road.{verdict_up_to}
use Rattle.file.specs.declared.ReadRoad.{ReadRoad}
use Rattle.file.specs.File.{byte_at, file_length, letters, version_in, curve_count, road_in, no_road}

-- byte k is not letter k of VCP
abbrev pub differs : List ℕ → ℕ → Bool
differs s k = not (eqb (byte_at s k) (byte_at letters k))

-- the header and the length, in order: 1 fewer bytes than a header of version 1 has, 16; 2 wrong letters; 3 version not 1 or 2; 1 fewer
-- bytes than a header of its version has; 4 n over 32; 5 total length wrong
unfoldable pub header_verdict : List ℕ → Verdict
header_verdict s =
    refuse (ltb (length s) (file_length first_version 0)) ShortFile
    (refuse (differs s 0 || differs s 1 || differs s 2) WrongLetters
    (refuse (outside first_version second_version (version_in s)) WrongVersion
    (refuse (ltb (length s) (file_length (version_in s) 0)) ShortFile
    (refuse (ltb greatest_curve_count (curve_count s)) TooManyCurves
    (refuse (not (eqb (length s) (file_length (version_in s) (curve_count s)))) WrongTotal
    accepted)))))

-- reading, where no road over `most` metres is taken: 1 to 5, then the refusals of the road
unfoldable pub read_verdict_up_to : ℕ → List ℕ → Verdict
read_verdict_up_to most s = unless (header_verdict s) (verdict_up_to most (road_in s))

-- whether a file is accepted
abbrev pub read_verdict : List ℕ → Verdict
read_verdict s = read_verdict_up_to greatest_long_road s

-- whether the lister, the preview and the van's marking take it
abbrev pub short_read_verdict : List ℕ → Verdict
short_read_verdict s = read_verdict_up_to greatest_short_road s

-- the road where it is accepted, else zeros
abbrev pub road_or_none : Verdict → Road → Road
road_or_none (Ok _) r = r
road_or_none (Err k) r = no_road

-- the verdict and beside it the file's road, all zero where it is refused
unfoldable pub read_up_to : ℕ → List ℕ → ReadRoad
read_up_to most s = record { verdict = read_verdict_up_to most s; road = road_or_none (read_verdict_up_to most s) (road_in s) }

-- of any file that is accepted
abbrev pub read_road : List ℕ → ReadRoad
read_road s = read_up_to greatest_long_road s

-- ---- how much is enough
-- one byte more than the longest road file has
abbrev pub enough_bytes : ℕ
enough_bytes = file_length second_version greatest_curve_count + 1

-- n bytes are enough: whatever a file holds behind them, what is read of its first n bytes is what is read of it
abbrev pub EnoughToRead : ℕ → Type 0
EnoughToRead n = (most : ℕ) (s : List ℕ) → n ≤ length s → read_up_to most (take n s) ≡ read_up_to most s
