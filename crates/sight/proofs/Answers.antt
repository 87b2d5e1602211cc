-- What the operations answer and leave in the list where nothing is refused: for their callers, which need not unfold the answers.
use mathlib.Core.Bool.{Bool}
use mathlib.Core.Path.{◌≡◌}
use mathlib.Core.List.{List}
use Prim.Native.Nat.{ℕ, ◌≤◌, ◌<◌}
use native.Mathlib.Omega.{arith}
use lib.IntN.{ℤ}
use lib.ListN.{length, get_or}
use Rattle.whole.proofs.Fill.{filled_at}
use Rattle.terms.specs.Limits.{greatest_list}
use Rattle.std.specs.Prelude.{Ok}
use Rattle.terms.proofs.Laws.{room_number}
use Rattle.verdicts.proofs.Laws.{LookInRange, sight_accepted, profile_accepted}
use Rattle.sight.specs.Operations.{sight_toward, sight_answer, profile_answer, profile_list}

module _ (list : List ℤ) (back : Bool) (i e o far : ℕ) (on : i < length list) (short : length list ≤ greatest_list) (look : LookInRange e o far) where
  pub sight_number : sight_answer list back i e o far ≡ Ok (sight_toward list back i e o far)
  unfolding sight_answer
  sight_number = rw (sight_accepted (length list) i e o far on short look)

  module _ (sights : List ℕ) (room : length list ≤ length sights) where
    pub profile_number : profile_answer list e o far sights ≡ Ok (length list)
    unfolding profile_answer
    profile_number = room_number _ _ sights (profile_accepted (length list) e o far (omega arith, short) look) room

    -- place i of the list
    pub profile_at : get_or (profile_list list back e o far sights) i 0 ≡ sight_toward list back i e o far
    unfolding profile_list
    profile_at =
        rw profile_number
        (filled_at (λ k. sight_toward list back k e o far) 0 (length list) sights i 0 (omega arith) (omega arith) (omega arith))
