-- `put`: the lowest bytes of the number's four, copied to their places.
use Rattle.std.proofs.Common.{arith, refl, ap, ◌≡◌, ◌∙◌, ℕ, zero, suc, ◌+◌, ◌≤◌, ◌/◌, ◌%◌, List, [], ◌∷◌, ◌++◌, length, take, drop, set, add-one, append_assoc}
use Rattle.std.proofs.Math.Seq.{take-suc-set}
use Rattle.std.proofs.lemmas.List.{take-append-drop, drop-set-lt, drop-drop, length-set}
use Rattle.std.specs.Int.{w32, to_le_bytes}
use borrow.Rule.Slice.PartMut.{put_mid}
use Rattle.whole.specs.Placed.{placed, Wrote}
use Rattle.whole.proofs.Placed.{wrote_length}
use Rattle.writing.specs.Bytes.{bytes_of}
use Rattle.writing.proofs.Bytes.{bytes_length}
use Rattle.writing.proofs.Writer.put.Goals as goal

-- the bytes of a number are the lowest of its four
lowest : (w k n : ℕ) → w ≤ k → take w (bytes_of k n) ≡ bytes_of w n
lowest zero k n l = refl
lowest (suc w) zero n l = absurd (omega arith)
lowest (suc w) (suc k) n l = ap (λ bytes. n % 256 ∷ bytes) (lowest w k (n / 256) (omega arith))

four : (n : ℕ) → to_le_bytes w32 n ≡ bytes_of 4 n
four n =
    let second : n / 65536 ≡ n / 256 / 256 = omega arith in
    let third : n / 16777216 ≡ n / 256 / 256 / 256 = omega arith in
    rw (second, third)

-- bytes copied to their places are placed there
copied : (bytes : List ℕ) (at : ℕ) (xs : List ℕ) → at + length bytes ≤ length xs →
    take at xs ++ (bytes ++ drop (at + length bytes) xs) ≡ placed bytes at xs
unfolding placed
copied [] at xs l = let none : at + 0 ≡ at = omega arith in rw (none, take-append-drop)
copied (b ∷ bytes) at xs l =
    let next : at + suc (length bytes) ≡ at + 1 + length bytes = omega arith in
    let front : take (at + 1) (set xs at b) ≡ take at xs ++ (b ∷ []) = rw add-one (take-suc-set xs at b (omega arith)) in
    let behind = drop-set-lt (at + 1 + length bytes) xs at b (omega arith) in
    rw next (rw (front, behind, append_assoc) at (copied bytes (at + 1) (set xs at b) (omega (arith, length-set xs at b))))

stored : (at w k n : ℕ) (xs ys bs : List ℕ) → w ≤ 4 → at + w ≤ length xs → k ≡ w → bs ≡ to_le_bytes w32 n → ys ≡ take w bs →
    put_mid at k xs ys ≡ placed (bytes_of w n) at xs
stored at w k n xs ys bs l m e p q =
    let all : ys ≡ bytes_of w n = q ∙ rw (p, four n) (lowest w 4 n l) in
    let size = bytes_length w n in
    rw (e, all, drop-drop) (rw size at (copied (bytes_of w n) at xs (omega arith)))

pub returns : goal.returns
returns c =
    let a = c.args in
    let wrote : Wrote (bytes_of a.width a.number) a.self.now.at _ a.self.now.buffer.now _ = record {
      behind = omega (arith, bytes_length a.width a.number);
      text = stored a.self.now.at a.width _ a.number a.self.now.buffer.now _ _ (omega arith) (omega arith) (omega arith) c.to_le_bytes.ensures c.copy_from_slice.ensures.after;
    } in
    record { wrote = wrote; same = refl; size = wrote_length wrote }
