-- Laws of `filled`: its length, each of its filled places, the places that stay, how it grows by one store at its end or its
-- front, and what it depends on.
use mathlib.Core.Path.{◌≡◌, refl, sym, ap, ◌∙◌}
use mathlib.Core.List.{List}
use mathlib.Core.Logic.{◌⊎◌, inl, inr, ⊎_elim}
use Prim.Native.Nat.{ℕ, zero, suc, ◌+◌, ◌≤◌, ◌<◌}
use native.Mathlib.Nat.{eq-or-lt_of_le, add_assoc, add-suc, add-zero}
use native.Mathlib.Numerals.{add-one}
use native.Mathlib.Omega.{arith}
use lib.ListN.{length, take, get_or, set, length-set}
use lib.Seq.{get_or-set_same, get_or-set_other, set_comm, take-set-lt, ext_get_or}
use Rattle.whole.specs.Fill.{filled}

module _ {A : Type 0} (f : ℕ → A) (i : ℕ) where
  pub filled-length : (n : ℕ) (xs : List A) → length (filled f i n xs) ≡ length xs
  unfolding filled
  filled-length zero xs = refl
  filled-length (suc n) xs = length-set (filled f i n xs) (i + n) (f (i + n)) ∙ filled-length n xs

  -- ---- each filled place
  pub filled_at : (n : ℕ) (xs : List A) (k : ℕ) (z : A) → i ≤ k → k < i + n → k < length xs →
      get_or (filled f i n xs) k z ≡ f k
  unfolding filled
  filled_at zero xs k z l r m = absurd (omega arith)
  filled_at (suc n) xs k z l r m =
      ⊎_elim
      (λ e. rw e (get_or-set_same (filled f i n xs) (i + n) (f (i + n)) z (omega (arith, filled-length n xs))))
      (λ s. get_or-set_other (filled f i n xs) (i + n) k (f (i + n)) z (λ e. omega arith) ∙ filled_at n xs k z l s m)
      (eq-or-lt_of_le {n = k} {m = i + n} (omega arith))

  -- ---- each place before and behind them stays
  pub filled_stays : (n : ℕ) (xs : List A) (k : ℕ) (z : A) → (k < i) ⊎ (i + n ≤ k) → get_or (filled f i n xs) k z ≡ get_or xs k z
  unfolding filled
  filled_stays zero xs k z out = refl
  filled_stays (suc n) xs k z out =
      get_or-set_other (filled f i n xs) (i + n) k (f (i + n)) z (λ e. ⊎_elim (λ l. omega arith) (λ l. omega arith) out)
      ∙ filled_stays n xs k z (⊎_elim (λ l. inl l) (λ l. inr (omega arith)) out)

  -- ---- a loop that fills: its start, one store more, its end
  pub filled_none : (xs : List A) → xs ≡ filled f i 0 xs
  unfolding filled
  filled_none xs = refl

  pub filled_more : (n : ℕ) (xs out : List A) (v : A) → out ≡ filled f i n xs → v ≡ f (i + n) →
      set out (i + n) v ≡ filled f i (n + 1) xs
  unfolding filled
  filled_more n xs out v p q = rw (p, q, add-one) refl

  pub filled_to : (n m : ℕ) (xs out : List A) → n ≡ m → out ≡ filled f i n xs → out ≡ filled f i m xs
  filled_to n m xs out e p = rw (← e) p

  -- ---- a loop that fills from the last place back: one store more
  front : (n : ℕ) (xs : List A) → set (filled f (i + 1) n xs) i (f i) ≡ filled f i (n + 1) xs
  unfolding filled
  front zero xs = rw add-zero refl
  front (suc n) xs =
      let e : i + 1 + n ≡ i + (n + 1) = omega arith in let w : suc n + 1 ≡ suc (n + 1) = omega arith in
      set_comm (filled f (i + 1) n xs) (i + 1 + n) i (f (i + 1 + n)) (f i) (λ e. omega arith)
      ∙ ap (λ ys. set ys (i + 1 + n) (f (i + 1 + n))) (front n xs)
      ∙ rw (e, w) refl

  pub filled_front : (n j : ℕ) (xs out : List A) (v : A) → j ≡ i + 1 → out ≡ filled f j n xs → v ≡ f i →
      set out i v ≡ filled f i (n + 1) xs
  filled_front n j xs out v e p q = rw (p, e, q) (front n xs)

  -- ---- two rows end to end
  pub filled_join : (n m : ℕ) (xs : List A) → filled f (i + n) m (filled f i n xs) ≡ filled f i (n + m) xs
  unfolding filled
  filled_join n zero xs = rw add-zero refl
  filled_join n (suc m) xs = rw (filled_join n m xs, add_assoc i n m, add-suc) refl

  -- ---- the front of a list, its row filled
  pub filled-take : (n m : ℕ) (xs : List A) → i + n ≤ m → take m (filled f i n xs) ≡ filled f i n (take m xs)
  unfolding filled
  filled-take zero m xs l = refl
  filled-take (suc n) m xs l =
      take-set-lt m (filled f i n xs) (i + n) (f (i + n)) (omega arith)
      ∙ ap (λ (ys : List A). set ys (i + n) (f (i + n))) (filled-take n m xs (omega arith))

-- one store more, where the loop's counter is the number of stores and the place at once
pub filled_next : {A : Type 0} (f : ℕ → A) (n : ℕ) (xs out : List A) (v : A) → out ≡ filled f 0 n xs → v ≡ f n →
    set out n v ≡ filled f 0 (n + 1) xs
filled_next f n xs out v p q =
    let z : 0 + n ≡ n = omega arith in
    rw z at (filled_more f 0 n xs out v p (rw z q))

-- ---- only what f is at the filled places counts
pub filled_cong : {A : Type 0} (f g : ℕ → A) (i n : ℕ) (xs : List A) → ((k : ℕ) → i ≤ k → k < i + n → f k ≡ g k) →
    filled f i n xs ≡ filled g i n xs
unfolding filled
filled_cong f g i zero xs h = refl
filled_cong f g i (suc n) xs h =
    rw (filled_cong f g i n xs (λ k l r. h k l (omega arith)), h (i + n) (omega arith) (omega arith)) refl

-- two rows end to end, each as the whole row says
pub filled_then : {A : Type 0} (f g h : ℕ → A) (i n j m k : ℕ) (xs ys zs : List A) → ys ≡ filled f i n xs → zs ≡ filled g j m ys →
    j ≡ i + n → k ≡ n + m → ((x : ℕ) → i ≤ x → x < j → f x ≡ h x) → ((x : ℕ) → j ≤ x → x < j + m → g x ≡ h x) →
    zs ≡ filled h i k xs
filled_then f g h i n j m k xs ys zs p q e s first second =
    q ∙ filled_cong g h j m ys second ∙ rw (p, filled_cong f h i n xs (λ x l u. first x l (omega arith)), e, s) (filled_join h i n m xs)

-- ---- where all places are filled, what they held does not count
pub filled_whole : {A : Type 0} (f : ℕ → A) (n : ℕ) (xs ys : List A) → length xs ≡ n → length ys ≡ n →
    filled f 0 n xs ≡ filled f 0 n ys
filled_whole f n xs ys p q =
    let a = filled-length f 0 n xs in let b = filled-length f 0 n ys in
    ext_get_or (f 0) (filled f 0 n xs) (filled f 0 n ys) (omega arith)
    (λ k l. filled_at f 0 n xs k (f 0) (omega arith) (omega arith) (omega arith)
    ∙ sym (filled_at f 0 n ys k (f 0) (omega arith) (omega arith) (omega arith)))
