-- Sight in a direction: towards rising stations it is the available sight over the list itself, and it is at most the farthest distance.
use mathlib.Core.Bool.{Bool}
use mathlib.Core.List.{List}
use mathlib.Core.Path.{◌≡◌, refl}
use Prim.Native.Nat.{ℕ, ◌≤◌}
use lib.IntN.{ℤ}
use lib.ListN.{length}
use Rattle.directions.specs.Directions.{forward, faced, counted}
use Rattle.sight.specs.Sight.{available_sight}
use Rattle.sight.specs.Operations.{sight_toward}
use Rattle.sight.proofs.Reach.{sight_le_far}

pub toward_forward : (list : List ℤ) (i e o far : ℕ) → sight_toward list forward i e o far ≡ available_sight list i e o far
unfolding sight_toward
toward_forward list i e o far = refl

pub toward_le_far : (list : List ℤ) (back : Bool) (i e o far : ℕ) → sight_toward list back i e o far ≤ far
unfolding sight_toward
toward_le_far list back i e o far = sight_le_far (faced back list) (counted back (length list) i) e o far
