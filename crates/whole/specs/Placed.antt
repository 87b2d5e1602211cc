-- Bytes written into a text from a place on: what private writers of bytes require and leave. Private contracts alone cite it:
-- nothing here need be believed.
use Rattle.std.specs.Prelude.{ℕ, ◌+◌, ◌≤◌, ◌≡◌, List, [], ◌∷◌, length, set}

-- the text with the bytes from place `at` on, the others stay
unfoldable pub placed : List ℕ → ℕ → List ℕ → List ℕ
placed [] at text = text
placed (b ∷ bytes) at text = placed bytes (at + 1) (set text at b)

-- the text has room for the bytes from place `at` on
pub record Room (bytes : List ℕ) (at : ℕ) (text : List ℕ) : Type 0 where
  pub fits : at + length bytes ≤ length text

-- the bytes were written from place `at` on, and `next` is the place behind them
pub record Wrote (bytes : List ℕ) (at next : ℕ) (before after : List ℕ) : Type 0 where
  pub behind : next ≡ at + length bytes
  pub text : after ≡ placed bytes at before
