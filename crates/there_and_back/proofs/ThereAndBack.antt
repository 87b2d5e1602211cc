-- A file's road is accepted in the other version where it can be converted, so converting is writing it there: what is read of it then is
-- the theorem `written_then_read`. Converted once more it is the road that was read first, and `read_then_written` goes back to the file.
use Prim.Native.Nat.{ℕ, ◌≤◌, ◌<◌}
use mathlib.Core.Bool.{Bool, true, false}
use mathlib.Core.List.{List}
use mathlib.Core.Path.{◌≡◌, refl, sym, ap, ◌∙◌}
use native.Mathlib.Omega.{arith}
use lib.ListN.{length, get_or}
use lib.Seq.{get_or-take}
use Rattle.whole.proofs.Fill.{filled_cong}
use Rattle.terms.specs.Answers.{refuse, unless, Answer, accepted}
use Rattle.terms.specs.Limits.{greatest_long_road}
use Rattle.terms.specs.declared.Refusal.{Refusal}
use Rattle.terms.specs.declared.Refusal.TheVariants.{RoadLengthOutside, LongRoad}
use Rattle.terms.proofs.Laws.{refused_not_ok, unless_accepted}
use Rattle.road.specs.Road.{no_curve, curves_of, road_verdict}
use Rattle.file.specs.File.{version_in, curve_count, curve_at, road_in}
use Rattle.file.specs.Reading.{read_verdict, read_road}
use Rattle.file.proofs.Sound.{SoundHeader, SoundFile, accepted_file, places_in, curve_in, verdict_read, road_read}
use Rattle.writing.specs.Writing.{write_answer}
use Rattle.round_trip.specs.RoundTrip.{cleared, ReadBack}
use Rattle.round_trip.proofs.RoundTrip.{read_then_written, written_then_read}
use Rattle.conversion.specs.Conversion.{other_version, in_version, converted, too_long_for, convert_verdict, convert_answer, convert_list}
use Rattle.there_and_back.specs.ThereAndBack.{converted_length, converted_file, AfterReading, ConvertedThenRead, ThereAndBack}
use Rattle.there_and_back.proofs.Versions.{verdict_there, converted_twice}

-- ---- what comes after reading
-- 27 stands before the 8 that writing would give, so that after it the room decides
long_or_no_room : (b : Bool) (room : Answer) →
    unless (refuse b LongRoad accepted) (unless (refuse b RoadLengthOutside accepted) room) ≡ refuse b LongRoad room
long_or_no_room true room = refl
long_or_no_room false room = refl

pub after_reading : AfterReading
unfolding convert_answer convert_verdict write_answer in_version road_in
after_reading s out ok =
    rw (ok, verdict_there (road_in s) (accepted_file s ok).road) (long_or_no_room (too_long_for (other_version (version_in s)) (road_in s)) _)

-- ---- a file that can be converted
-- where a test accepts, what it would refuse with does not count
other_refusal : (b : Bool) (j k : Refusal) → refuse b j accepted ≡ accepted → refuse b k accepted ≡ accepted
other_refusal true j k e = absurd (refused_not_ok e)
other_refusal false j k e = refl

module _ (s : List ℕ) (can : convert_verdict s ≡ accepted) where
  pub readable : read_verdict s ≡ accepted
  unfolding convert_verdict
  readable = (unless_accepted (read_verdict s) _ can).0

  pub sound : SoundFile greatest_long_road s
  sound = accepted_file s readable

  read_road_is : (read_road s).road ≡ road_in s
  read_road_is = road_read greatest_long_road s (read_road s) refl readable

  pub accepted_there : road_verdict (converted (road_in s)) ≡ accepted
  unfolding convert_verdict
  accepted_there =
      verdict_there (road_in s) sound.road
      ∙ other_refusal (too_long_for (other_version (road_in s).version) (road_in s)) LongRoad RoadLengthOutside (unless_accepted (read_verdict s) _ can).1

-- its road has zero in its unused curve places, in either version
module _ (s : List ℕ) (f : SoundHeader s) where
  curve_used : (k : ℕ) → k < curve_count s → get_or (curves_of (road_in s)) k no_curve ≡ curve_at (version_in s) s k
  unfolding road_in
  curve_used k h = get_or-take (curve_count s) (road_in s).curves k no_curve h ∙ curve_in s f k h

  cleared_already : (version : ℕ) → cleared (in_version version (road_in s)) ≡ in_version version (road_in s)
  unfolding cleared in_version road_in
  cleared_already version =
      rw (filled_cong (λ (k : ℕ). get_or (curves_of (road_in s)) k no_curve) (curve_at (version_in s) s) 0 (curve_count s) _ (λ k l h. curve_used k (omega arith))) refl

-- ---- converted, then read
module _ (s out : List ℕ) (can : convert_verdict s ≡ accepted) (room : converted_length s ≤ length out) where
  abbrev there : List ℕ
  there = converted_file s out

  read_back : ReadBack (converted (road_in s)) out
  unfolding in_version road_in
  read_back = written_then_read (converted (road_in s)) out (omega (arith, places_in s, (sound s can).header.count)) (accepted_there s can) room

  read_there : read_road there ≡ record { verdict = accepted; road = converted (road_in s) }
  unfolding convert_list in_version road_in
  read_there = rw can (read_back.read ∙ rw (cleared_already s (sound s can).header (other_version (version_in s))) refl)

  pub readable_there : read_verdict there ≡ accepted
  readable_there = sym (verdict_read greatest_long_road there _ (sym read_there))

  pub road_in_there : road_in there ≡ converted (road_in s)
  road_in_there = sym (road_read greatest_long_road there _ (sym read_there) readable_there)

  -- the converted file can be converted, since its road in the other version is the first file's, which is accepted
  convertible_there : convert_verdict there ≡ accepted
  unfolding convert_verdict
  convertible_there =
      let back = sym (verdict_there (converted (road_in s)) (accepted_there s can)) ∙ ap road_verdict (converted_twice (road_in s) (sound s can).road) ∙ (sound s can).road in
      rw (readable_there, road_in_there) (other_refusal (too_long_for (other_version (converted (road_in s)).version) (converted (road_in s))) RoadLengthOutside LongRoad back)

  converted_there : converted (road_in there) ≡ (read_road s).road
  converted_there = ap converted road_in_there ∙ converted_twice (road_in s) (sound s can).road ∙ sym (read_road_is s can)

pub converted_then_read : ConvertedThenRead
unfolding convert_answer in_version road_in
converted_then_read s out can room = record {
  answer = rw can (read_back s out can room).answer;
  read = rw (read_road_is s can) (read_there s out can room);
}

-- ---- there and back
pub there_and_back : ThereAndBack
unfolding convert_answer convert_list
there_and_back s out back bytes can room room_back =
    let can-back = convertible_there s out can room in let again = converted_there s out can room in
    let same = read_then_written s back bytes (verdict_read greatest_long_road s (read_road s) refl ∙ readable s can) room_back in
    record { answer = rw (can-back, again) same.answer; front = rw (can-back, again) same.front }
