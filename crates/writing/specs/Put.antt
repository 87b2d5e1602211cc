-- What private writers of bytes leave. Private contracts and laws alone cite it: nothing here need be believed.
use Rattle.std.specs.Prelude.{ℕ, List, length, ◌≡◌}
use Rattle.whole.specs.Placed.{Wrote}
use Rattle.writing.specs.declared.Writer.{Writer}

-- the bytes were stored behind what was stored before, in the same buffer
pub record Put (bytes : List ℕ) (before after : Writer) : Type 0 where
  pub wrote : Wrote bytes before.at after.at before.buffer.now after.buffer.now
  pub same : after.buffer.ghost_name ≡ before.buffer.ghost_name
  pub size : length after.buffer.now ≡ length before.buffer.now
