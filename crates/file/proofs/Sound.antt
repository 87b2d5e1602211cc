-- What acceptance of a file says: its header is sound and its road accepted; and the other way round.
use mathlib.Core.Path.{◌≡◌, refl, ap, ◌∙◌}
use mathlib.Core.Bool.{not, ◌||◌}
use mathlib.Core.List.{List}
use Prim.Native.Nat.{ℕ, ◌≤◌, ◌<◌}
use native.Mathlib.Omega.{arith}
use borrow.Author.Tests.{le-ltb, eq-eqb}
use mir.Facts.{or_no}
use lib.Dec.{ltb, eqb, nltb→le}
use lib.ListN.{length, get_or, length-replicate}
use Rattle.whole.proofs.Fill.{filled-length, filled_at}
use Rattle.terms.specs.Answers.{outside, Verdict, accepted}
use Rattle.terms.specs.Limits.{first_version, second_version, greatest_curve_count}
use Rattle.terms.specs.declared.Refusal.TheVariants.{ShortFile, WrongLetters, WrongVersion, TooManyCurves, WrongTotal}
use Rattle.terms.proofs.Laws.{refuse_accepted, unless_accepted, no_difference, inside}
use Rattle.road.specs.Road.{no_curve, verdict_up_to}
use Rattle.file.specs.declared.ReadRoad.{ReadRoad}
use Rattle.file.specs.File.{byte_at, file_length, letters, version_in, curve_count, curve_at, road_in}
use Rattle.file.specs.Reading.{differs, header_verdict, read_verdict_up_to, road_or_none, read_up_to}
use Rattle.file.proofs.Stations.{station_size, first_station}

-- ---- the header
pub record SoundHeader (s : List ℕ) : Type 0 where
  pub letter_V : byte_at s 0 ≡ byte_at letters 0
  pub letter_C : byte_at s 1 ≡ byte_at letters 1
  pub letter_P : byte_at s 2 ≡ byte_at letters 2
  pub version_low : first_version ≤ version_in s
  pub version_high : version_in s ≤ second_version
  pub count : curve_count s ≤ greatest_curve_count
  pub total : length s ≡ file_length (version_in s) (curve_count s)

pub accepted_header : (s : List ℕ) → header_verdict s ≡ accepted → SoundHeader s
unfolding header_verdict
accepted_header s e =
    let short = refuse_accepted (ltb (length s) (file_length first_version 0)) ShortFile _ e in
    let spelled = refuse_accepted (differs s 0 || differs s 1 || differs s 2) WrongLetters _ short.1 in
    let versions = refuse_accepted (outside first_version second_version (version_in s)) WrongVersion _ spelled.1 in
    let shorter = refuse_accepted (ltb (length s) (file_length (version_in s) 0)) ShortFile _ versions.1 in
    let many = refuse_accepted (ltb greatest_curve_count (curve_count s)) TooManyCurves _ shorter.1 in
    let longer = refuse_accepted (not (eqb (length s) (file_length (version_in s) (curve_count s)))) WrongTotal _ many.1 in
    let which = inside first_version second_version (version_in s) versions.0 in
    let third = or_no (differs s 0 || differs s 1) (differs s 2) spelled.0 in
    search (or_no (differs s 0) (differs s 1) third.0, no_difference, nltb→le)

-- ---- the file: its header, and the road in it
pub record SoundFile (most : ℕ) (s : List ℕ) : Type 0 where
  pub header : SoundHeader s
  pub road : verdict_up_to most (road_in s) ≡ accepted

pub accepted_file : {most : ℕ} (s : List ℕ) → read_verdict_up_to most s ≡ accepted → SoundFile most s
unfolding read_verdict_up_to
accepted_file s e =
    let both = unless_accepted (header_verdict s) _ e in
    record { header = accepted_header s both.0; road = both.1 }

pub sound_file : {most : ℕ} (s : List ℕ) → SoundFile most s → read_verdict_up_to most s ≡ accepted
unfolding read_verdict_up_to header_verdict
sound_file s f =
    let h = f.header in
    let station = station_size (version_in s) in
    simp (
      le-ltb (length s) (file_length first_version 0) (omega (arith, first_station, station.0)),
      eq-eqb _ _ h.letter_V,
      eq-eqb _ _ h.letter_C,
      eq-eqb _ _ h.letter_P,
      le-ltb _ _ h.version_low,
      le-ltb _ _ h.version_high,
      le-ltb (length s) (file_length (version_in s) 0) (omega arith),
      le-ltb _ _ h.count,
      eq-eqb _ _ h.total,
    )
    f.road

-- ---- the road in a file has 32 curve places, and those in use hold the file's records
pub places_in : (s : List ℕ) → length (road_in s).curves ≡ greatest_curve_count
unfolding road_in
places_in s = filled-length (curve_at (version_in s) s) 0 (curve_count s) _ ∙ length-replicate greatest_curve_count no_curve

pub curve_in : (s : List ℕ) → SoundHeader s → (k : ℕ) → k < curve_count s → get_or (road_in s).curves k no_curve ≡ curve_at (version_in s) s k
unfolding road_in
curve_in s f k h =
    filled_at (curve_at (version_in s) s) 0 (curve_count s) _ k no_curve (omega arith) (omega arith)
    (omega (arith, f.count, length-replicate greatest_curve_count no_curve))

-- ---- what reading answers, by its verdict
pub read_by : (most : ℕ) (s : List ℕ) (v : Verdict) → read_verdict_up_to most s ≡ v →
    read_up_to most s ≡ record { verdict = v; road = road_or_none v (road_in s) }
unfolding read_up_to
read_by most s v e = rw e refl

-- what a caller of `read` has in hand: the answer's two parts
module _ (most : ℕ) (s : List ℕ) (r : ReadRoad) (e : r ≡ read_up_to most s) where
  pub verdict_read : r.verdict ≡ read_verdict_up_to most s
  unfolding read_up_to
  verdict_read = ap (λ (x : ReadRoad). x.verdict) e

  pub road_read : read_verdict_up_to most s ≡ accepted → r.road ≡ road_in s
  road_read a = ap (λ (x : ReadRoad). x.road) (e ∙ read_by most s _ a)
