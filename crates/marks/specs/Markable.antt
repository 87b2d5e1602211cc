-- What the functions that mark stations ask. Private contracts alone cite it: nothing here need be believed.
use Rattle.std.specs.Prelude.{◌≤◌, List, ℤ, length}
use Rattle.terms.specs.Limits.{greatest_list, greatest_farthest}
use Rattle.distance.specs.declared.Distances.{Distances}

-- no more heights than a list may have, and distances that sight can be asked for up to
pub record Markable (heights : List ℤ) (d : Distances) : Type 0 where
  pub short : length heights ≤ greatest_list
  pub stopping : d.stopping ≤ greatest_farthest
  pub decision : d.decision ≤ greatest_farthest
