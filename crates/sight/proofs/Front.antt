-- A list of which the front is filled, as a slice of its own.
use mathlib.Core.Path.{◌≡◌, refl, sym, ap, ◌∙◌}
use mathlib.Core.List.{List, ◌++◌}
use Prim.Native.Nat.{ℕ, zero, suc, ◌+◌, ◌≤◌}
use native.Mathlib.Omega.{arith}
use lib.ListN.{length, take, drop}
use Rattle.std.proofs.lemmas.List.{length-take-le, take-append-drop, set-append_left}
use Rattle.whole.specs.Fill.{filled}
use Rattle.whole.proofs.Fill.{filled-length}

module _ (f : ℕ → ℕ) where
  filled-append : (n : ℕ) (xs ys : List ℕ) → n ≤ length xs → filled f 0 n xs ++ ys ≡ filled f 0 n (xs ++ ys)
  unfolding filled
  filled-append zero xs ys l = refl
  filled-append (suc n) xs ys l =
      sym (set-append_left (filled f 0 n xs) ys (0 + n) (f (0 + n)) (omega (arith, filled-length f 0 n xs)))
      ∙ rw (filled-append n xs ys (omega arith)) refl

  pub front_filled : (n : ℕ) (xs out : List ℕ) → n ≤ length xs → out ≡ filled f 0 (length (take n xs)) (take n xs) →
      out ++ drop n xs ≡ filled f 0 n xs
  front_filled n xs out l p =
      let size = length-take-le n xs l in
      rw (p, size) (filled-append n (take n xs) (drop n xs) (omega arith) ∙ ap (filled f 0 n) (take-append-drop n xs))
