-- What makes a passing mark, the sight up to the distance, asked for only where passing is judged; and where nothing is refused, what the
-- operation answers and leaves in the list.
use mathlib.Core.Path.{◌≡◌, refl}
use mathlib.Core.Bool.{Bool, true, false, not, ◌&&◌}
use mathlib.Core.List.{List}
use Prim.Native.Nat.{ℕ, ◌+◌, ◌*◌, ◌%◌, ◌≤◌, ◌<◌}
use native.Mathlib.Omega.{arith}
use lib.Bits.{bit_or}
use lib.IntN.{ℤ}
use lib.ListN.{length, get_or}
use mir.Val.{bool_byte}
use Rattle.whole.proofs.Fill.{filled_at}
use Rattle.terms.specs.Limits.{greatest_list, greatest_farthest}
use Rattle.std.specs.Prelude.{Ok}
use Rattle.terms.proofs.Laws.{room_number}
use Rattle.verdicts.proofs.Laws.{passing_accepted}
use Rattle.marks.specs.Marks.{bit}
use Rattle.passing.specs.Passing.{passing_mark, passing_answer, passing_list}

-- two tests, of which at most one holds, shifted to places 5 and 6 and joined
pub shifted : (j m : Bool) → bit_or (bool_byte (j && m) * 32 % 256) (bool_byte (not j) * 64 % 256) ≡ bit 5 (j && m) + bit 6 (not j)
shifted true true = refl
shifted true false = refl
shifted false m = refl

-- ---- where nothing is refused
module _ (heights : List ℤ) (R : ℕ) (marks : List ℕ) (size : (1 ≤ length heights) × (length heights ≤ greatest_list))
    (range : (1 ≤ R) × (R ≤ greatest_farthest)) (room : length heights ≤ length marks) where
  pub passing_number : passing_answer heights R marks ≡ Ok (length heights)
  unfolding passing_answer
  passing_number = room_number _ _ marks (passing_accepted (length heights) R size range) room

  -- a station's byte is its passing mark
  pub passing_at : (i : ℕ) → i < length heights → get_or (passing_list heights R marks) i 0 ≡ passing_mark heights R i
  unfolding passing_list
  passing_at i on =
      rw passing_number
      (filled_at (passing_mark heights R) 0 (length heights) marks i 0 (omega arith) (omega arith) (omega arith))
