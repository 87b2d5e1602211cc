-- An answer below 2^31 keeps its value as it is narrowed from 64 bits to 32.
use mathlib.Core.Path.{◌≡◌, ◌∙◌}
use Prim.Native.Nat.{ℕ, ◌<◌, ◌^◌}
use lib.Dec.{T, ltb, ltb→lt}
use lib.IntN.{ℤ}
use lib.Signed.{mag}
use mir.Syntax.{w32, w64}
use mir.Val.{SFits, hbits, to_z, of_z}
use Rattle.whole.proofs.Machine.{plain, got}
use Rattle.terms.specs.Answers.{signed, Answer}
use Rattle.terms.proofs.Laws.{AtMost, signed_fits}

-- what is asked of the narrowing, and what it gives
abbrev pub Narrows : ℤ → Answer → Type 0
Narrows r a = let wide = to_z w64 (of_z w64 r) in SFits w32 wide × (to_z w32 (of_z w32 wide) ≡ signed a)

pub narrows : (m : ℕ) (r : ℤ) (a : Answer) → AtMost m a → T (ltb m 2147483648) → mag r < 2 ^ hbits w64 → r ≡ signed a → Narrows r a
narrows m r a h t ok e =
    let fits : SFits w32 (to_z w64 (of_z w64 r)) = rw (got w64 r ok, e) (signed_fits a m (ltb→lt m 2147483648 t) h) in
    (fits, plain fits ∙ got w64 r ok ∙ e)
