-- The listing is written aside into a text that has room for any: it stands there whole, and its length decides whether it goes on into
-- the buffer.
use Prim.Native.Nat.{ℕ, zero, suc, ◌+◌, ◌≤◌}
use mathlib.Core.Path.{◌≡◌, refl, sym, ◌∙◌}
use mathlib.Core.List.{List, [], ◌++◌}
use borrow.Author.Tests.{le-ltb}
use native.Mathlib.Omega.{arith}
use lib.ListN.{length, drop, get_or}
use Rattle.std.proofs.lemmas.List.{take-append-drop, drop-set-lt}
use Rattle.whole.specs.Fill.{filled}
use Rattle.whole.proofs.Placed.{take-filled}
use Rattle.terms.specs.Limits.{greatest_short_road}
use Rattle.terms.specs.Answers.{accepted}
use Rattle.road.specs.Road.{short_road_verdict}
use Rattle.file.specs.declared.ReadRoad.{ReadRoad}
use Rattle.file.specs.Reading.{read_up_to}
use Rattle.file.proofs.Sound.{accepted_file, verdict_read, road_read}
use Rattle.listing.specs.Listing.{listing, list_answer, list_buffer}
use Rattle.listing.specs.Put.{put}
use Rattle.listing.proofs.Longest.{listing_at_most}
use Rattle.listing.proofs.Put.{put_all}

-- ---- what was read, where no road over 8,000 m is taken: where its verdict says so, its road is accepted
pub accepted_read : (file : List ℕ) (r : ReadRoad) → r ≡ read_up_to greatest_short_road file → r.verdict ≡ accepted → short_road_verdict r.road ≡ accepted
accepted_read file r e v =
    let accepted = sym (verdict_read greatest_short_road file r e) ∙ v in
    rw (road_read greatest_short_road file r e accepted) (accepted_file file accepted).road

-- ---- aside
pub aside : (file : List ℕ) → put [] (listing file) ≡ listing file
aside file = put_all (listing file) (listing_at_most file)

-- ---- into the buffer, where it has room
drop-filled : (f : ℕ → ℕ) (m n : ℕ) (xs : List ℕ) → m ≤ n → drop n (filled f 0 m xs) ≡ drop n xs
unfolding filled
drop-filled f zero n xs l = refl
drop-filled f (suc m) n xs l =
    drop-set-lt n (filled f 0 m xs) (0 + m) (f (0 + m)) (omega arith) ∙ drop-filled f m n xs (omega arith)

pub listed_buffer : (file buffer : List ℕ) → length (listing file) ≤ length buffer →
    listing file ++ drop (length (listing file)) buffer ≡ list_buffer file buffer
unfolding list_answer list_buffer
listed_buffer file buffer l =
    let text = listing file in let f : ℕ → ℕ = λ k. get_or text k 0 in
    let n = length text in
    rw (le-ltb (length buffer) n l)
    (rw (take-filled 0 text buffer l, drop-filled f n n buffer (omega arith)) at (take-append-drop n (filled f 0 n buffer)))
