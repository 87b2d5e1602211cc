-- The two round trips. What writing leaves at the front of a buffer with room are the road's bytes, and with these proofs/FileBack.antt
-- and proofs/RoadBack.antt go to the file and to the road.
use mathlib.Core.Path.{◌≡◌, refl, sym, ap, ◌∙◌}
use mathlib.Core.List.{List}
use Prim.Native.Nat.{ℕ, ◌≤◌}
use native.Mathlib.Omega.{arith}
use lib.ListN.{length, take}
use Rattle.whole.proofs.Placed.{take-filled}
use Rattle.terms.specs.Limits.{greatest_long_road}
use Rattle.std.specs.Prelude.{Ok}
use Rattle.terms.specs.Answers.{accepted}
use Rattle.terms.proofs.Laws.{room_number}
use Rattle.road.specs.declared.Road.{Road}
use Rattle.road.specs.Road.{road_verdict}
use Rattle.file.specs.File.{file_length, road_in}
use Rattle.file.specs.Reading.{read_road}
use Rattle.file.proofs.Sound.{accepted_file, sound_file, read_by, verdict_read}
use Rattle.writing.specs.Bytes.{file_bytes}
use Rattle.writing.specs.Writing.{write_answer, write_list}
use Rattle.writing.proofs.Bytes.{file_up_to-length}
use Rattle.round_trip.specs.RoundTrip.{ReadThenWritten, WrittenThenRead}
use Rattle.round_trip.proofs.FileBack.{file_back}
use Rattle.round_trip.proofs.RoadBack.{cleared_same, road_back, road_sound}

module _ (r : Road) (buffer : List ℕ) (ok : road_verdict r ≡ accepted) (room : file_length r.version r.count ≤ length buffer) where
  written_answer : write_answer r buffer ≡ Ok (file_length r.version r.count)
  unfolding write_answer
  written_answer = room_number _ _ buffer ok room

  written_front : take (file_length r.version r.count) (write_list r buffer) ≡ file_bytes r
  unfolding write_list
  written_front = let size = file_up_to-length r r.count in rw written_answer (rw size at (take-filled 0 (file_bytes r) buffer (omega arith)))

pub read_then_written : ReadThenWritten
read_then_written s buffer bytes ok room =
    let e = sym (verdict_read greatest_long_road s (read_road s) refl) ∙ ok in
    let f = accepted_file s e in
    let back = file_back s bytes f.header in
    let size : file_length (road_in s).version (road_in s).count ≡ length s = sym (file_up_to-length (road_in s) (road_in s).count) ∙ ap length back in
    let holds : file_length (road_in s).version (road_in s).count ≤ length buffer = omega arith in
    let read = read_by greatest_long_road s _ e in
    record {
      answer = rw read (written_answer (road_in s) buffer f.road holds ∙ ap Ok size);
      front = rw read (rw size at (written_front (road_in s) buffer f.road holds) ∙ back);
    }

pub written_then_read : WrittenThenRead
written_then_read r buffer holds ok room = record {
  answer = written_answer r buffer ok room;
  read =
      rw (written_front r buffer ok room)
      (read_by greatest_long_road (file_bytes r) _ (sound_file (file_bytes r) (road_sound r holds ok)) ∙ rw (road_back r holds ok) refl);
  same = cleared_same r holds ok;
}
