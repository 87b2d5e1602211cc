-- The road in the bytes of an accepted road is that road: each of its numbers fits its place, so its bytes give it back.
use mathlib.Core.Path.{◌≡◌, refl, sym, ap, ◌∙◌}
use mathlib.Core.Bool.{Bool, true, false, cond}
use mathlib.Core.List.{List, ◌++◌}
use mathlib.Core.Logic.{⊎_elim}
use Prim.Native.Nat.{ℕ, zero, suc, ◌+◌, ◌^◌, ◌≤◌, ◌<◌}
use native.Mathlib.Nat.{eq-or-lt_of_le}
use native.Mathlib.Omega.{arith}
use lib.Dec.{eqb}
use lib.IntN.{ℤ, pos, neg_ℤ, nat_abs}
use lib.ListN.{length, get_or, replicate, length-replicate, length-append}
use lib.Seq.{get_or-take, length-take-le}
use lib.Signed.{◌≤ℤ◌}
use mir.Syntax.{w16, w32}
use mir.Val.{SFits, to_z, of_z}
use Rattle.whole.proofs.Fill.{filled_cong}
use Rattle.whole.proofs.Machine.{plain}
use Rattle.whole.proofs.Placed.{take-filled}
use Rattle.whole.proofs.Range.{fits_by, range_size}
use Rattle.whole.proofs.Twos.{bits_below}
use Rattle.terms.specs.Limits.{second_version, greatest_short_road, greatest_long_road, greatest_curve_count, greatest_grade, lowest_start, highest_start}
use Rattle.terms.specs.Answers.{accepted}
use Rattle.road.specs.declared.Road.{Road}
use Rattle.road.specs.declared.Curve.{Curve}
use Rattle.road.specs.Road.{no_curve, curves_of, longest_road, numbers_verdict, verdict_up_to, road_verdict}
use Rattle.road.proofs.Accepted.{accepted_road, accepted_curve_at}
use Rattle.file.specs.File.{byte_at, number_at, station_bytes, record_length, file_length, letters, version_in, curve_count, curve_at, road_in}
use Rattle.file.proofs.Sound.{SoundFile}
use Rattle.file.proofs.Stations.{records_within}
use Rattle.writing.specs.Bytes.{bytes_of, front_bytes, header_bytes, curve_bytes, file_up_to, file_bytes}
use Rattle.writing.proofs.Bytes.{bytes_length, front_length, file_up_to-length}
use Rattle.round_trip.specs.RoundTrip.{SameRoad, cleared}
use Rattle.round_trip.proofs.Numbers.{number_one, number_first, number_next, number_back}

-- ---- where the numbers of a road stand in its bytes
-- a number of w bytes that are joined between others
between : (a b c : List ℕ) (k w : ℕ) → k ≡ length a → length b ≡ w → number_at (a ++ b ++ c) k w ≡ number_at b 0 w
between a b c k w e l =
    let at : k ≡ length a + 0 = omega arith in
    number_first (a ++ b) c k w (simp length-append (omega arith)) ∙ rw at (number_next a b 0 w)

module _ (r : Road) where
  -- its version, and how many bytes a station has in it
  abbrev v : ℕ
  v = r.version

  abbrev w : ℕ
  w = station_bytes v

  -- the header and n records are the front of more
  front_number : (n m k u : ℕ) → n ≤ m → k + u ≤ file_length v n → number_at (file_up_to r m) k u ≡ number_at (file_up_to r n) k u
  unfolding file_up_to
  front_number n zero k u l h = let e : n ≡ 0 = omega arith in rw e
  front_number n (suc m) k u l h =
      ⊎_elim
      (λ e. rw e)
      (λ lt.
      let fits = records_within v n m (omega arith) in
      number_first (file_up_to r m) _ k u (omega (arith, file_up_to-length r m, fits)) ∙ front_number n m k u (omega arith) h)
      (eq-or-lt_of_le l)

  -- a number of the header, and one of a record
  header_number : (k u n : ℕ) → k + u ≤ w + 14 → n < 256 ^ u → number_at (header_bytes r) k u ≡ number_at (bytes_of u n) 0 u →
      number_at (file_bytes r) k u ≡ n
  unfolding file_up_to
  header_number k u n l h e = front_number 0 r.count k u (omega arith) (omega arith) ∙ e ∙ number_back u n h

  header_byte : (k n : ℕ) → k < w + 14 → n < 256 → number_at (header_bytes r) k 1 ≡ number_at (bytes_of 1 n) 0 1 → byte_at (file_bytes r) k ≡ n
  header_byte k n l h e = sym (number_one (file_bytes r) k) ∙ header_number k 1 n (omega arith) h e

  record_number : (i j u n k : ℕ) → k ≡ file_length v i + j → i < r.count → j + u ≤ record_length v → n < 256 ^ u →
      number_at (curve_bytes v (get_or r.curves i no_curve)) j u ≡ number_at (bytes_of u n) 0 u → number_at (file_bytes r) k u ≡ n
  unfolding file_up_to
  record_number i j u n k p below l h e =
      front_number (suc i) r.count k u (omega arith) (omega arith)
      ∙ rw (p, ← file_up_to-length r i) (number_next (file_up_to r i) _ j u) ∙ e ∙ number_back u n h

  -- ---- N and the numbers of the header behind it, each behind the bytes of those before it
  abbrev front : List ℕ
  front = letters ++ bytes_of 2 v ++ bytes_of 1 r.speed ++ bytes_of 1 r.purpose

  abbrev start : List ℕ
  start = bytes_of 4 (of_z w32 r.start_height)

  abbrev grade : List ℕ
  grade = bytes_of 2 (of_z w16 r.first_grade)

  abbrev many : List ℕ
  many = bytes_of 1 r.count

  behind_start : length (front_bytes r ++ start) ≡ w + 11
  behind_start = length-append (front_bytes r) start ∙ omega (arith, front_length r)

  behind_grade : length (front_bytes r ++ start ++ grade) ≡ w + 13
  behind_grade = length-append (front_bytes r ++ start) grade ∙ omega (arith, behind_start)

  -- the count is no part of what stands before it
  before_count : (k u : ℕ) → k + u ≤ w + 13 → number_at (header_bytes r) k u ≡ number_at (front_bytes r ++ start ++ grade) k u
  unfolding header_bytes
  before_count k u l = number_first (front_bytes r ++ start ++ grade) many k u (omega (arith, behind_grade))

  length_there : number_at (header_bytes r) 7 w ≡ number_at (bytes_of w r.length) 0 w
  length_there =
      before_count 7 w (omega arith)
      ∙ number_first (front_bytes r ++ start) grade 7 w (omega (arith, behind_start))
      ∙ between front (bytes_of w r.length) start 7 w refl (bytes_length w r.length)

  start_there : number_at (header_bytes r) (w + 7) 4 ≡ number_at start 0 4
  start_there = before_count (w + 7) 4 (omega arith) ∙ between (front_bytes r) start grade (w + 7) 4 (sym (front_length r)) refl

  grade_there : number_at (header_bytes r) (w + 11) 2 ≡ number_at grade 0 2
  unfolding header_bytes
  grade_there = between (front_bytes r ++ start) grade many (w + 11) 2 (sym behind_start) refl

  count_there : number_at (header_bytes r) (w + 13) 1 ≡ number_at many 0 1
  unfolding header_bytes
  count_there =
      let at : w + 13 ≡ length (front_bytes r ++ start ++ grade) + 0 = omega (arith, behind_grade) in
      rw at (number_next (front_bytes r ++ start ++ grade) many 0 1)

-- ---- where the numbers of a curve stand in its record
module _ (version : ℕ) (c : Curve) where
  abbrev pvi : List ℕ
  pvi = bytes_of (station_bytes version) c.pvi

  abbrev size : List ℕ
  size = bytes_of 2 c.length

  abbrev grade_bytes : List ℕ
  grade_bytes = bytes_of 2 (of_z w16 c.grade_out)

  behind_pvi : length pvi ≡ station_bytes version
  behind_pvi = bytes_length (station_bytes version) c.pvi

  behind_size : length (pvi ++ size) ≡ station_bytes version + 2
  behind_size = length-append pvi size ∙ omega (arith, behind_pvi)

  pvi_there : let u = station_bytes version in number_at (curve_bytes version c) 0 u ≡ number_at pvi 0 u
  unfolding curve_bytes
  pvi_there =
      let u = station_bytes version in
      number_first (pvi ++ size) grade_bytes 0 u (omega (arith, behind_size)) ∙ number_first pvi size 0 u (omega (arith, behind_pvi))

  size_there : number_at (curve_bytes version c) (station_bytes version) 2 ≡ number_at size 0 2
  unfolding curve_bytes
  size_there = between pvi size grade_bytes (station_bytes version) 2 (sym behind_pvi) refl

  grade_out_there : number_at (curve_bytes version c) (station_bytes version + 2) 2 ≡ number_at grade_bytes 0 2
  unfolding curve_bytes
  grade_out_there =
      let at : station_bytes version + 2 ≡ length (pvi ++ size) + 0 = omega (arith, behind_size) in
      rw at (number_next (pvi ++ size) grade_bytes 0 2)

-- ---- the ranges of an accepted road
grade_fits : (z : ℤ) → neg_ℤ (pos greatest_grade) ≤ℤ z → z ≤ℤ pos greatest_grade → SFits w16 z
grade_fits z l h = fits_by record { b = greatest_grade; ok = range_size {a = greatest_grade} z (omega arith) l h } tt

start_fits : (z : ℤ) → lowest_start ≤ℤ z → z ≤ℤ highest_start → SFits w32 z
start_fits z l h = fits_by record { b = nat_abs highest_start; ok = range_size {a = nat_abs lowest_start} z (omega arith) l h } tt

-- a station of a road fits the bytes that its version has for it
station_fits : (version n : ℕ) → n ≤ longest_road version → n < 256 ^ station_bytes version
unfolding station_bytes
station_fits version n l = by_version (eqb version second_version) l
  where
    by_version : (b : Bool) → n ≤ cond b greatest_long_road greatest_short_road → n < 256 ^ cond b 4 2
    by_version true h = omega arith
    by_version false h = omega arith

module _ (r : Road) (holds : r.count ≤ length r.curves) (ok : road_verdict r ≡ accepted) where
  curve_back : (i : ℕ) → i < r.count → curve_at r.version (file_bytes r) i ≡ get_or (curves_of r) i no_curve
  unfolding curve_at
  curve_back i h =
      let same = get_or-take r.count r.curves i no_curve h in
      let c = get_or r.curves i no_curve in
      let sound = accepted_curve_at greatest_long_road r ok holds i no_curve h in
      let within = station_fits (v r) c.pvi (omega (arith, sound.0.before_end, (accepted_road r ok).length_of_version)) in
      let g = grade_fits c.grade_out sound.1.grade_low sound.1.grade_high in
      let at = file_length (v r) i in
      let pvi = record_number r i 0 (w r) c.pvi at (omega arith) h (omega arith) within (pvi_there (v r) c) in
      let size = record_number r i (w r) 2 c.length (at + w r) refl h (omega arith) (omega arith) (size_there (v r) c) in
      let grade = record_number r i (w r + 2) 2 (of_z w16 c.grade_out) (at + w r + 2) (omega arith) h (omega arith) (bits_below g) (grade_out_there (v r) c) in
      rw (pvi, size, grade, plain g, same)

  pub cleared_same : SameRoad (cleared r) r
  unfolding cleared
  cleared_same =
      let used = length-take-le r.count r.curves holds in
      let curves = rw used at (take-filled no_curve (curves_of r) (replicate greatest_curve_count no_curve) (omega (arith, length-replicate greatest_curve_count no_curve, (accepted_road r ok).count))) in
      search

  -- the tests of a road see only its numbers and its first n curves
  same_verdict : road_verdict (cleared r) ≡ road_verdict r
  unfolding verdict_up_to numbers_verdict
  same_verdict = let m = cleared_same in rw (m.curves, m.version, m.speed, m.purpose, m.length, m.start, m.grade, m.count)

  version_back : version_in (file_bytes r) ≡ r.version
  unfolding header_bytes number_at
  version_back = header_number r 3 2 r.version (omega arith) (omega (arith, (accepted_road r ok).version_high)) refl

  speed_back : byte_at (file_bytes r) 5 ≡ r.speed
  unfolding header_bytes number_at
  speed_back = header_byte r 5 r.speed (omega arith) (omega (arith, (accepted_road r ok).speed_high)) refl

  purpose_back : byte_at (file_bytes r) 6 ≡ r.purpose
  unfolding header_bytes number_at
  purpose_back = header_byte r 6 r.purpose (omega arith) (omega (arith, (accepted_road r ok).purpose_high)) refl

  count_back : curve_count (file_bytes r) ≡ r.count
  count_back =
      rw version_back (header_byte r (w r + 13) r.count (omega arith) (omega (arith, (accepted_road r ok).count)) (count_there r))

  pub road_back : road_in (file_bytes r) ≡ cleared r
  unfolding road_in cleared
  road_back =
      let road = accepted_road r ok in
      let s = start_fits r.start_height road.start_low road.start_high in
      let g = grade_fits r.first_grade road.grade_low road.grade_high in
      cc (
        version_back,
        count_back,
        speed_back,
        purpose_back,
        header_number r 7 (w r) r.length (omega arith) (station_fits (v r) r.length road.length_of_version) (length_there r),
        ap (to_z w32) (header_number r (w r + 7) 4 (of_z w32 r.start_height) (omega arith) (bits_below s) (start_there r)) ∙ plain s,
        ap (to_z w16) (header_number r (w r + 11) 2 (of_z w16 r.first_grade) (omega arith) (bits_below g) (grade_there r)) ∙ plain g,
        filled_cong (curve_at r.version (file_bytes r)) (λ (k : ℕ). get_or (curves_of r) k no_curve) 0 r.count (replicate greatest_curve_count no_curve) (λ k l h. curve_back k (omega arith)),
      )

  pub road_sound : SoundFile greatest_long_road (file_bytes r)
  unfolding header_bytes number_at
  road_sound = record {
    header = record {
      letter_V = header_byte r 0 (byte_at letters 0) (omega arith) (omega arith) refl;
      letter_C = header_byte r 1 (byte_at letters 1) (omega arith) (omega arith) refl;
      letter_P = header_byte r 2 (byte_at letters 2) (omega arith) (omega arith) refl;
      version_low = rw version_back (accepted_road r ok).version_low;
      version_high = rw version_back (accepted_road r ok).version_high;
      count = rw count_back (accepted_road r ok).count;
      total =
          file_up_to-length r r.count ∙ ap (file_length r.version) (sym count_back)
          ∙ ap (λ u. file_length u (curve_count (file_bytes r))) (sym version_back);
    };
    road = rw road_back (same_verdict ∙ ok);
  }
