-- The accuracy rule for passing: an instance of the rule; and a mark is 0, bit 5 or bit 6 by two tests, of which the second compares the sight
-- that the rule is about with R.
use mathlib.Core.Bool.{Bool, true, false}
use mathlib.Core.List.{List}
use mathlib.Core.Logic.{inl, inr}
use mathlib.Core.Path.{◌≡◌, refl, ap, ◌∙◌}
use Prim.Native.Nat.{ℕ, ◌+◌, ◌-◌, ◌≤◌}
use native.Mathlib.Omega.{arith}
use borrow.Author.Tests.{ltb-true, ltb-false, leb-true, leb-false}
use lib.IntN.{ℤ}
use lib.ListN.{length}
use Rattle.terms.specs.Limits.{greatest_long_road, eye_height, passing_object_height}
use Rattle.std.specs.Prelude.{Ok}
use Rattle.road.specs.declared.Road.{Road}
use Rattle.road.proofs.Accepted.{accepted_road}
use Rattle.heights.specs.Heights.{heights_list}
use Rattle.heights.proofs.Filled.{heights-length}
use Rattle.directions.specs.Directions.{forward}
use Rattle.sight.specs.Sight.{available_sight}
use Rattle.marks.specs.Marks.{judged, lacking_at}
use Rattle.passing.specs.Passing.{passing_mark}
use Rattle.passing.proofs.Laws.{passing_number, passing_at}
use Rattle.exact.specs.ExactSight.{exact_sight}
use Rattle.accuracy.specs.PassingAccuracy.{Says, PassingAccuracy}
use Rattle.accuracy.proofs.Accuracy.{accuracy}

-- the mark over heights, one for each station of the road, over which the sight lies between the exact ones
module _ (r : Road) (own : List ℤ) (R i : ℕ) (stations : length own ≡ r.length + 1) where
  abbrev seen : ℕ
  seen = available_sight own i eye_height passing_object_height R

  says : exact_sight r forward i (eye_height - 1) (passing_object_height - 1) R ≤ seen →
      seen ≤ exact_sight r forward i (eye_height + 1) (passing_object_height + 1) R → Says r R i (passing_mark own R i)
  unfolding passing_mark
  says low high = go (judged own R i) (lacking_at eye_height passing_object_height own R i) refl refl
    where
      fits : judged own R i ≡ true → i + R ≤ r.length
      fits p = omega (arith, leb-true (i + R) (length own - 1) p)

      go : (j l : Bool) → judged own R i ≡ j → lacking_at eye_height passing_object_height own R i ≡ l →
          Says r R i (passing_mark own R i)
      go true true p q = inr (inl (simp (p, q), fits p, omega (arith, ltb-true seen R q)))
      go true false p q = inl (simp (p, q), fits p, omega (arith, ltb-false seen R q))
      go false l p q = inr (inr (simp p, omega (arith, leb-false (i + R) (length own - 1) p)))

pub passing_accuracy : PassingAccuracy
passing_accuracy r list sights marks i R ok size room place on low high =
    let own = heights_list r list in
    let stations : length own ≡ r.length + 1 = omega (arith, heights-length r list) in
    let short : r.length ≤ greatest_long_road = (accepted_road r ok).length_high in
    let accurate = accuracy r list sights forward i eye_height passing_object_height R ok size room on
    (omega arith) (omega arith) (omega arith) (omega arith) low high in
    let right = says r own R i stations (rw accurate.available at accurate.at_least) (rw accurate.available at accurate.at_most) in
    record {
      rule = accurate;
      answer = passing_number own R marks (omega arith, omega arith) (low, high) (omega arith) ∙ ap Ok stations;
      mark = rw (passing_at own R marks (omega arith, omega arith) (low, high) (omega arith) i (omega arith)) right;
    }
