-- Both contracts are the same equation, so whatever the two answer is equal to the same.
use mathlib.Core.Path.{sym, ◌∙◌}
use Rattle.engines.specs.SameSights.{SameSights}

pub same_sights : SameSights
same_sights = record {
  alone = λ κs call quick slow x y p q. p ∙ sym q;
  profile = λ κs call quick slow x y p q. (p.0 ∙ sym q.0, p.1 ∙ sym q.1);
}
