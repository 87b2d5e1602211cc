-- What each writer of bytes leaves: its parts one behind the other are its whole, and the whole file is what an accepted road leaves.
use mathlib.Core.Path.{◌≡◌, ap, ◌∙◌}
use mathlib.Core.List.{List, ◌++◌}
use Prim.Native.Nat.{ℕ, ◌+◌, ◌≤◌, ◌<◌}
use native.Mathlib.Numerals.{add-one}
use native.Mathlib.Omega.{arith}
use lib.ListN.{length, get_or, length-take}
use lib.Seq.{get_or-take}
use Rattle.whole.specs.Placed.{Wrote}
use Rattle.whole.proofs.Placed.{wrote_join, wrote_filled}
use Rattle.terms.specs.Limits.{greatest_curve_count}
use Rattle.terms.specs.Answers.{accepted}
use Rattle.terms.proofs.Laws.{ends_filled}
use Rattle.road.specs.declared.Curve.{Curve}
use Rattle.road.specs.declared.Road.{Road}
use Rattle.road.specs.Road.{no_curve, curves_of, road_verdict}
use Rattle.road.proofs.Accepted.{accepted_road}
use Rattle.file.specs.File.{byte_at, record_length, file_length}
use Rattle.file.proofs.Stations.{second_station, longest_file, records_within}
use Rattle.writing.specs.Bytes.{curve_bytes, file_up_to, file_bytes}
use Rattle.writing.specs.Put.{Put}
use Rattle.writing.specs.declared.Writer.{Writer}
use Rattle.writing.specs.Writing.{write_answer, write_list}
use Rattle.writing.proofs.Bytes.{file_up_to-length}

-- ---- one behind the other
pub put_join : {a b : List ℕ} {u v w : Writer} → Put a u v → Put b v w → Put (a ++ b) u w
put_join p q = record { wrote = wrote_join p.wrote q.wrote; same = q.same ∙ p.same; size = q.size ∙ p.size }

-- ---- the file
pub put_record : (r : Road) (cs : List Curve) (k : ℕ) {u v w : Writer} → cs ≡ curves_of r → k < length cs → Put (file_up_to r k) u v →
    Put (curve_bytes r.version (get_or cs k no_curve)) v w → Put (file_up_to r (k + 1)) u w
unfolding file_up_to
put_record r cs k e l p q =
    let used : k < r.count = omega (arith, ap length e, length-take r.count r.curves) in
    rw add-one (put_join p (rw (e, get_or-take) at q))

-- a record more fits
pub record_fits : (r : Road) (k : ℕ) {u v : Writer} → k < length (curves_of r) → u.at + file_length r.version r.count ≤ length u.buffer.now →
    Put (file_up_to r k) u v → v.at + record_length r.version ≤ length v.buffer.now
record_fits r k l room p =
    let used : k < r.count = omega (arith, length-take r.count r.curves) in
    omega (arith, p.wrote.behind, p.size, file_up_to-length r k, records_within r.version (k + 1) r.count (omega arith))

-- ---- an accepted road
module _ (r : Road) (e : road_verdict r ≡ accepted) where
  pub accepted_count : r.count ≤ greatest_curve_count
  accepted_count = (accepted_road r e).count

  pub accepted_length : file_length r.version r.count ≤ 274
  accepted_length = omega (arith, second_station, longest_file r.version r.count accepted_count)

  pub written_file : (n : ℕ) (buffer out : List ℕ) → file_length r.version r.count ≤ length buffer → Wrote (file_bytes r) 0 n buffer out →
      out ≡ write_list r buffer
  unfolding write_answer write_list
  written_file n buffer out l p =
      (ends_filled (byte_at (file_bytes r)) (road_verdict r) (file_length r.version r.count) buffer out e l (rw file_up_to-length at (wrote_filled p))).1
