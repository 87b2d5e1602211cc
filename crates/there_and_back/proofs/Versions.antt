-- A road in its two versions. In version 1 it is judged as in version 2 where none over 8,000 m is taken, so that what a limit does to an
-- accepted road (`accepted_up_to`) says what another version does to it. And the other version of the other version is the first.
use Prim.Native.Nat.{ℕ, ◌≤◌}
use mathlib.Core.Logic.{◌⊎◌, inl, inr, ⊎_elim}
use mathlib.Core.Path.{◌≡◌, refl, sym, ap, ◌∙◌}
use native.Mathlib.Nat.{eq-or-lt_of_le}
use native.Mathlib.Omega.{arith}
use borrow.Author.Tests.{le-ltb}
use lib.Dec.{ltb}
use Rattle.terms.specs.Answers.{refuse, accepted}
use Rattle.terms.specs.Limits.{first_version, second_version, greatest_short_road, greatest_long_road}
use Rattle.terms.specs.declared.Refusal.TheVariants.{RoadLengthOutside}
use Rattle.road.specs.declared.Road.{Road}
use Rattle.road.specs.Road.{longest_road, numbers_verdict, verdict_up_to, road_verdict, short_road_verdict}
use Rattle.road.proofs.Accepted.{accepted_road}
use Rattle.road.proofs.UpTo.{short_accepted, accepted_up_to}
use Rattle.conversion.specs.Conversion.{other_version, in_version, converted, too_long_for}
use Rattle.there_and_back.specs.ThereAndBack.{AcceptedInEither}

-- a version is one of two
either_version : (version : ℕ) → first_version ≤ version → version ≤ second_version → (version ≡ first_version) ⊎ (version ≡ second_version)
either_version version low high = ⊎_elim (λ e. inr e) (λ lt. inl (omega arith)) (eq-or-lt_of_le high)

-- ---- a road in either version
-- in version 1 a road is judged as in version 2 where none over 8,000 m is taken
first_is_short : (r : Road) → road_verdict (in_version first_version r) ≡ short_road_verdict (in_version second_version r)
unfolding verdict_up_to numbers_verdict in_version
first_is_short r = refl

-- in its own version it is the road itself
own_version : (r : Road) {version : ℕ} → r.version ≡ version → in_version version r ≡ r
unfolding in_version
own_version r e = rw (← e) refl

-- in version 2 every accepted road is accepted
in_second : (r : Road) → road_verdict r ≡ accepted → road_verdict (in_version second_version r) ≡ accepted
in_second r ok =
    let f = accepted_road r ok in
    ⊎_elim
    (λ e. short_accepted _ (sym (first_is_short r) ∙ ap road_verdict (own_version r e) ∙ ok))
    (λ e. ap road_verdict (own_version r e) ∙ ok)
    (either_version r.version f.version_low f.version_high)

pub accepted_in_either : AcceptedInEither
unfolding in_version
accepted_in_either version r low high ok =
    ⊎_elim
    (λ e. rw e (first_is_short r ∙ accepted_up_to greatest_short_road (in_version second_version r) (in_second r ok)))
    (λ e. rw e (accepted_up_to greatest_long_road (in_version second_version r) (in_second r ok)))
    (either_version version low high)

-- ---- the other version
module _ (version : ℕ) (low : first_version ≤ version) (high : version ≤ second_version) where
  other_in_range : (first_version ≤ other_version version) × (other_version version ≤ second_version)
  other_in_range = ⊎_elim (λ e. rw e (omega arith, omega arith)) (λ e. rw e (omega arith, omega arith)) (either_version version low high)

  pub other_twice : other_version (other_version version) ≡ version
  other_twice = ⊎_elim (λ e. rw e refl) (λ e. rw e refl) (either_version version low high)

  -- 27 is for the roads that are longer than a road of the version wanted may be
  pub too_long_is : (r : Road) → r.length ≤ greatest_long_road → too_long_for version r ≡ ltb (longest_road version) r.length
  too_long_is r within =
      ⊎_elim (λ e. rw e refl) (λ e. rw e (sym (le-ltb greatest_long_road r.length within))) (either_version version low high)

-- ---- an accepted road in its other version
module _ (r : Road) (ok : road_verdict r ≡ accepted) where
  -- it is refused 8 there just where it is too long
  pub verdict_there : road_verdict (converted r) ≡ refuse (too_long_for (other_version r.version) r) RoadLengthOutside accepted
  verdict_there =
      let f = accepted_road r ok in let other = other_version r.version in
      let range = other_in_range r.version f.version_low f.version_high in
      rw (too_long_is other range.0 range.1 r f.length_high) (accepted_in_either other r range.0 range.1 ok)

  -- converted twice it is the road itself
  pub converted_twice : converted (converted r) ≡ r
  unfolding in_version
  converted_twice = let f = accepted_road r ok in rw (other_twice r.version f.version_low f.version_high) refl
