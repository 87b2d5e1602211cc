-- The road in a sound file has just the file's bytes: each of its numbers has the bytes that it was read from, and one behind the
-- other these make the file.
use mathlib.Core.Path.{◌≡◌, sym, ap, ◌∙◌}
use mathlib.Core.List.{List, ◌++◌}
use Prim.Native.Nat.{ℕ, zero, suc, ◌+◌, ◌≤◌, ◌<◌}
use native.Mathlib.Omega.{arith}
use lib.ListN.{length, take, drop}
use lib.Seq.{take-add, take_all, drop-drop}
use mir.Syntax.{w16, w32}
use Rattle.whole.proofs.Twos.{bits_back}
use Rattle.file.specs.File.{byte_at, number_at, station_bytes, record_length, file_length, letters, version_in, curve_count, curve_at, road_in}
use Rattle.file.proofs.Numbers.{number_below}
use Rattle.file.proofs.Sound.{SoundHeader, curve_in}
use Rattle.file.proofs.Stations.{records_within}
use Rattle.writing.specs.Bytes.{bytes_of, header_bytes, curve_bytes, file_up_to, file_bytes}
use Rattle.round_trip.specs.RoundTrip.{Bytes}
use Rattle.round_trip.proofs.Numbers.{number_one, bytes_back}

-- the front of a list, and the piece behind it
take_then : (l : List ℕ) (k w n : ℕ) {a b : List ℕ} → a ≡ take k l → b ≡ take w (drop k l) → n ≡ k + w → a ++ b ≡ take n l
take_then l k w n p q e = rw (p, q, e) (sym (take-add k w l))

module _ (s : List ℕ) (bytes : Bytes s) (f : SoundHeader s) where
  -- the version, and how many bytes a station has in it
  abbrev v : ℕ
  v = version_in s

  abbrev w : ℕ
  w = station_bytes v

  number : (k n : ℕ) → k + n ≤ w + 14 → bytes_of n (number_at s k n) ≡ take n (drop k s)
  number k n l = bytes_back s bytes k n (omega (arith, f.total))

  byte : (k : ℕ) → k < w + 14 → bytes_of 1 (byte_at s k) ≡ take 1 (drop k s)
  byte k l = rw number_one at (number k 1 (omega arith))

  letters_back : letters ≡ take 3 s
  unfolding number_at
  letters_back = rw (f.letter_V, f.letter_C, f.letter_P) at (number 0 3 (omega arith))

  header_back : header_bytes (road_in s) ≡ take (file_length v 0) s
  unfolding header_bytes road_in
  header_back =
      let start = ap (bytes_of 4) (bits_back w32 (number_below s bytes (w + 7) 4)) ∙ number (w + 7) 4 (omega arith) in
      let grade = ap (bytes_of 2) (bits_back w16 (number_below s bytes (w + 11) 2)) ∙ number (w + 11) 2 (omega arith) in
      let version = take_then s 3 2 5 letters_back (number 3 2 (omega arith)) (omega arith) in
      let speed = take_then s 5 1 6 version (byte 5 (omega arith)) (omega arith) in
      let purpose = take_then s 6 1 7 speed (byte 6 (omega arith)) (omega arith) in
      let length = take_then s 7 w (w + 7) purpose (number 7 w (omega arith)) (omega arith) in
      let grades = take_then s (w + 11) 2 (w + 13) (take_then s (w + 7) 4 (w + 11) length start (omega arith)) grade (omega arith) in
      take_then s (w + 13) 1 (file_length v 0) grades (byte (w + 13) (omega arith)) (omega arith)

  behind : (at j n k : ℕ) → k ≡ at + j → k + n ≤ length s → bytes_of n (number_at s k n) ≡ take n (drop j (drop at s))
  behind at j n k e h = rw (drop-drop, ← e) (bytes_back s bytes k n h)

  curve_back : (i : ℕ) → i < curve_count s → curve_bytes v (curve_at v s i) ≡ take (record_length v) (drop (file_length v i) s)
  unfolding curve_bytes curve_at
  curve_back i h =
      let at = file_length v i in
      let l = drop at s in
      let fits = records_within v (i + 1) (curve_count s) (omega arith) in
      let size : at + record_length v ≤ length s = omega (arith, f.total, fits) in
      let grade = ap (bytes_of 2) (bits_back w16 (number_below s bytes (at + w + 2) 2)) ∙ behind at (w + 2) 2 (at + w + 2) (omega arith) (omega arith) in
      let two = take_then l w 2 (w + 2) (bytes_back s bytes at w (omega arith)) (behind at w 2 (at + w) (omega arith) (omega arith)) (omega arith) in
      take_then l (w + 2) 2 (record_length v) two grade (omega arith)

  front_back : (n : ℕ) → n ≤ curve_count s → file_up_to (road_in s) n ≡ take (file_length v n) s
  unfolding file_up_to road_in
  front_back zero h = header_back
  front_back (suc n) h =
      rw (curve_in s f n (omega arith))
      (take_then s (file_length v n) (record_length v) (file_length v (suc n)) (front_back n (omega arith)) (curve_back n (omega arith)) (omega arith))

  pub file_back : file_bytes (road_in s) ≡ s
  unfolding road_in
  file_back = front_back (curve_count s) (omega arith) ∙ take_all (file_length v (curve_count s)) s (omega (arith, f.total))
