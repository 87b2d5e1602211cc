-- What a limit of an operation does: nothing to a road that does not reach beyond it, and a longer road that is accepted without it is
-- refused 8.
use Prim.Native.Nat.{ℕ, ◌≤◌, min}
use mathlib.Core.Bool.{Bool, true, false}
use mathlib.Core.Path.{◌≡◌, refl, ◌∙◌}
use native.Mathlib.Omega.{arith}
use borrow.Author.Tests.{lt-ltb, le-ltb, ltb-true, ltb-false}
use lib.Dec.{ltb}
use Rattle.terms.specs.Answers.{outside, refuse, accepted}
use Rattle.terms.specs.Limits.{first_version, second_version, least_speed, greatest_speed, first_decision, last_purpose, greatest_curve_count, greatest_short_road, greatest_long_road}
use Rattle.terms.specs.declared.Refusal.TheVariants.{RoadLengthOutside}
use Rattle.terms.proofs.Laws.{not_outside}
use Rattle.road.specs.declared.Road.{Road}
use Rattle.road.specs.Road.{longest_road, numbers_verdict, verdict_up_to, road_verdict, short_road_verdict}
use Rattle.road.proofs.Accepted.{accepted_road}

-- ---- a road up to the limit
-- the test of its length is that of its version
module _ (most longest n : ℕ) (within : n ≤ most) where
  too_long : (b : Bool) → ltb longest n ≡ b → ltb (min most longest) n ≡ b
  too_long true e = lt-ltb (min most longest) n (omega (arith, ltb-true longest n e))
  too_long false e = le-ltb (min most longest) n (omega (arith, ltb-false longest n e))

  version_decides : outside 1 (min most longest) n ≡ outside 1 longest n
  version_decides = rw (too_long (ltb longest n) refl)

pub verdict_within : (most more : ℕ) (r : Road) → r.length ≤ most → r.length ≤ more → verdict_up_to most r ≡ verdict_up_to more r
unfolding verdict_up_to numbers_verdict
verdict_within most more r l m =
    let longest = longest_road r.version in
    rw (version_decides most longest r.length l, version_decides more longest r.length m)

-- a road that the lister, the preview and the van's marking take is accepted
pub short_accepted : (r : Road) → short_road_verdict r ≡ accepted → road_verdict r ≡ accepted
short_accepted r e =
    let short = (accepted_road {most = greatest_short_road} r e).length_high in
    verdict_within greatest_long_road greatest_short_road r (omega (arith, short)) short ∙ e

-- ---- an accepted road, up to any limit: its length decides
pub accepted_up_to : (most : ℕ) (r : Road) → road_verdict r ≡ accepted → verdict_up_to most r ≡ refuse (ltb most r.length) RoadLengthOutside accepted
unfolding verdict_up_to numbers_verdict
accepted_up_to most r e = by_length (ltb most r.length) refl
  where
    by_length : (b : Bool) → ltb most r.length ≡ b → verdict_up_to most r ≡ refuse b RoadLengthOutside accepted
    by_length true over =
        let s = accepted_road {most = greatest_long_road} r e in
        simp (
          not_outside first_version second_version r.version (s.version_low, s.version_high),
          le-ltb greatest_curve_count r.count s.count,
          not_outside least_speed greatest_speed r.speed (s.speed_low, s.speed_high),
          not_outside first_decision last_purpose r.purpose (s.purpose_low, s.purpose_high),
          le-ltb r.length 1 s.length_low,
          lt-ltb (min most (longest_road r.version)) r.length (omega (arith, ltb-true most r.length over)),
        )
    by_length false within = verdict_within most greatest_long_road r (ltb-false _ _ within) (accepted_road r e).length_high ∙ e
