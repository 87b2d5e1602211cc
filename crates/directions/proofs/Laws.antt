-- Laws of a direction: heights as they are met are as many, and place k holds the height of the station that is counted there. Lists in
-- reverse order, place by place.
use Prim.Native.Nat.{ℕ, suc, ◌-◌, ◌<◌}
use mathlib.Core.Bool.{Bool, true, false}
use mathlib.Core.List.{List, [], ◌∷◌, reverse, reverse-cons}
use mathlib.Core.Logic.{⊎_elim}
use mathlib.Core.Path.{◌≡◌, refl, sym, ap, ◌∙◌}
use native.Mathlib.Nat.{eq-or-lt_of_le}
use native.Mathlib.Omega.{arith}
use lib.IntN.{ℤ}
use lib.ListN.{length, get_or, length-reverse, get_or-append}
use lib.Seq.{get_or_at, ext_get_or}
use Rattle.whole.specs.Fill.{filled}
use Rattle.whole.proofs.Fill.{filled_at, filled-length}
use Rattle.directions.specs.Directions.{backward, faced, counted}

-- ---- reverse order
pub reverse_at : {A : Type 0} (xs : List A) (k : ℕ) (z : A) → k < length xs → get_or (reverse xs) k z ≡ get_or xs (counted backward (length xs) k) z
reverse_at [] k z l = absurd (omega arith)
reverse_at (x ∷ xs) k z l =
    rw (reverse-cons x xs)
    (⊎_elim
    (λ e. let first : suc (length xs) - 1 - k ≡ 0 = omega arith in
    rw first (get_or_at (reverse xs) x [] z k (length-reverse xs ∙ sym e)))
    (λ m. let next : suc (length xs) - 1 - k ≡ suc (length xs - 1 - k) = omega arith in
    rw next (get_or-append (reverse xs) (x ∷ []) z k (rw (length-reverse xs) m) ∙ reverse_at xs k z m))
    (eq-or-lt_of_le {n = k} {m = length xs} (omega arith)))

-- all places filled by g from the other end
pub filled_reversed : {A : Type 0} (f g : ℕ → A) (n : ℕ) (xs ys : List A) → length xs ≡ n → length ys ≡ n →
    ((i : ℕ) → i < n → f i ≡ g (counted backward n i)) → filled f 0 n xs ≡ reverse (filled g 0 n ys)
filled_reversed f g n xs ys p q same =
    let fs = filled f 0 n xs in let gs = filled g 0 n ys in
    let a = filled-length f 0 n xs in let b = filled-length g 0 n ys in let c = length-reverse gs in
    ext_get_or (f 0) fs (reverse gs) (omega arith)
    (λ i l.
    let back : counted backward (length gs) i ≡ n - 1 - i = omega arith in
    filled_at f 0 n xs i (f 0) (omega arith) (omega arith) (omega arith)
    ∙ same i (omega arith)
    ∙ sym (filled_at g 0 n ys (n - 1 - i) (f 0) (omega arith) (omega arith) (omega arith))
    ∙ sym (reverse_at gs i (f 0) (omega arith) ∙ ap (λ (k : ℕ). get_or gs k (f 0)) back))

-- ---- heights as they are met
pub faced-length : (back : Bool) (list : List ℤ) → length (faced back list) ≡ length list
faced-length true list = length-reverse list
faced-length false list = refl

pub faced_at : (back : Bool) (list : List ℤ) (k : ℕ) (z : ℤ) → k < length list →
    get_or (faced back list) k z ≡ get_or list (counted back (length list) k) z
faced_at true list k z l = reverse_at list k z l
faced_at false list k z l = refl

-- ---- places
pub counted_below : (back : Bool) (n k : ℕ) → k < n → counted back n k < n
counted_below true n k l = omega arith
counted_below false n k l = l

pub counted_twice : (back : Bool) (n k : ℕ) → k < n → counted back n (counted back n k) ≡ k
counted_twice true n k l = omega arith
counted_twice false n k l = refl
