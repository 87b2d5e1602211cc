-- `number_at`: its bytes with zeros behind them, four in all, make the same number, which is below 256 ^ width.
use Rattle.std.proofs.Common.{arith, ◌≡◌, ℕ, zero, suc, List, ◌++◌, ◌∷◌, [], ◌+◌, ◌-◌, ◌≤◌, ◌<◌, refl, length, take, drop, ◌∙◌, length-take, length-drop}
use Rattle.std.proofs.lemmas.List.{get_or_append_left, get_or-append_right, get_or-take, get_or-drop, get_or-replicate}
use Rattle.std.specs.Int.{w32, from_le_bytes}
use Rattle.file.specs.File.{byte_at, number_at}
use Rattle.file.proofs.Numbers.{number_below}
use Rattle.file.proofs.number_at.Goals as goal

module _ (s bytes : List ℕ) where
  number_of : (at k w n : ℕ) → w ≤ n → ((i : ℕ) → i < w → byte_at bytes (k + i) ≡ byte_at s (at + i)) →
      ((i : ℕ) → w ≤ i → i < n → byte_at bytes (k + i) ≡ 0) → number_at bytes k n ≡ number_at s at w
  unfolding number_at
  number_of at k zero zero l f z = refl
  number_of at k (suc w) zero l f z = absurd (omega arith)
  number_of at k zero (suc n) l f z =
      let rest = number_of at (k + 1) zero n (omega arith) (λ i m. absurd (omega arith)) (λ i m u. grind (arith, z (1 + i))) in
      let here : byte_at bytes k ≡ 0 = grind (arith, z 0) in
      omega arith
  number_of at k (suc w) (suc n) l f z =
      let rest = number_of (at + 1) (k + 1) w n (omega arith) (λ i m. grind (arith, f (1 + i))) (λ i m u. grind (arith, z (1 + i))) in
      let here : byte_at bytes k ≡ byte_at s at = grind (arith, f 0) in
      omega arith

four : (bytes : List ℕ) → from_le_bytes w32 bytes ≡ number_at bytes 0 4
unfolding number_at
four bytes = omega arith

abbrev zeros : List ℕ
zeros = 0 ∷ 0 ∷ 0 ∷ 0 ∷ []

padded : (s xs : List ℕ) (at w n : ℕ) → w ≤ 4 → at + w ≤ length s → xs ≡ take (at + w - at) (drop at s) →
    n ≡ from_le_bytes w32 (xs ++ drop w zeros) → n ≡ number_at s at w
padded s xs at w n l m e p =
    let all : at + w - at ≡ w = omega arith in
    let front = rw all at e in
    let size : length xs ≡ w = rw front (simp (length-take, length-drop) (omega arith)) in
    p ∙ four _
    ∙ number_of s (xs ++ drop w zeros) at 0 w 4 l
    (λ i h. let z : 0 + i ≡ i = omega arith in rw (z, get_or_append_left xs (drop w zeros) 0 i (omega arith), front, get_or-take, get_or-drop))
    (λ i h u. let z : 0 + i ≡ i = omega arith in rw (z, get_or-append_right xs (drop w zeros) w i 0 size h, get_or-drop) (get_or-replicate 4 (w + (i - w)) 0 0 (omega arith)))

pub returns : goal.returns
returns c =
    let a = c.args in
    let e = padded a.file.now _ a.at a.width _ (omega arith) (omega arith) c.copy_from_slice.ensures.after c.from_le_bytes.ensures in
    (e, omega (arith, number_below a.file.now (λ k. omega (arith, c.type_inv.file k)) a.at a.width))
