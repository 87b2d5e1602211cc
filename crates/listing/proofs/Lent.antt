-- What `zones` and `mark_short_road` leave in the arrays of the listing, which have places for the longest road that is listed.
use Prim.Native.Nat.{ℕ, zero, suc, ◌+◌, ◌*◌, ◌/◌, ◌≤◌, ◌<◌}
use mathlib.Core.Path.{◌≡◌, refl, ap}
use mathlib.Core.Bool.{false}
use mathlib.Core.List.{List, [], ◌∷◌}
use borrow.Author.Tests.{le-ltb}
use native.Mathlib.Omega.{arith}
use lib.ListN.{length, take, drop, get_or}
use Rattle.whole.specs.Placed.{Room}
use Rattle.whole.proofs.Placed.{wrote_front}
use Rattle.terms.specs.Answers.{list_outside, accepted}
use Rattle.terms.specs.Limits.{greatest_list, greatest_short_road}
use Rattle.std.specs.Result.{result_unwrap_or}
use Rattle.std.proofs.lemmas.List.{length-take-le}
use Rattle.std.specs.Simd.{first_chunks}
use Rattle.terms.proofs.Laws.{not_outside, ends_front}
use Rattle.road.specs.declared.Road.{Road}
use Rattle.road.proofs.Accepted.{accepted_road}
use Rattle.road.specs.Road.{short_road_verdict}
use Rattle.directions.specs.Directions.{forward}
use Rattle.road_marks.specs.RoadMarks.{road_mark, mark_road_answer, mark_road_list}
use Rattle.zones.specs.Zones.{zone_ends, zone_count, zones_answer, zones_list}
use Rattle.zones.proofs.Laws.{zone_ends_twice, zones_at_most, zones_by_room, zones_list_placed}
use Rattle.listing.specs.Listing.{joined, zone_lines, bit_letters, bit_lines, own_marks}
use Rattle.listing.specs.Put.{pair_lines}
use Rattle.listing.proofs.Put.{put_join}

joined_cong : (f g : ℕ → List ℕ) (n : ℕ) → ((k : ℕ) → k < n → f k ≡ g k) → joined f n ≡ joined g n
unfolding joined
joined_cong f g zero h = refl
joined_cong f g (suc n) h = rw (joined_cong f g n (λ k l. h k (omega arith)), h n (omega arith)) refl

-- ---- zones: pairs of stations, one behind the other
pair_at : (m k : ℕ) (xs : List ℕ) → k < m → 2 * m ≤ length xs →
    get_or (first_chunks 2 m xs) k [] ≡ get_or xs (2 * k) 0 ∷ get_or xs (2 * k + 1) 0 ∷ []
pair_at zero k xs l r = absurd (omega arith)
pair_at (suc m) k [] l r = absurd (omega arith)
pair_at (suc m) k (x ∷ []) l r = absurd (omega arith)
pair_at (suc m) zero (x ∷ y ∷ xs) l r = refl
pair_at (suc m) (suc k) (x ∷ y ∷ xs) l r =
    let first : 2 * suc k ≡ suc (suc (2 * k)) = omega arith in
    let last : 2 * suc k + 1 ≡ suc (suc (2 * k + 1)) = omega arith in
    rw (last, first) (pair_at m k xs (omega arith) (omega arith))

pairs-length : (m : ℕ) (xs : List ℕ) → length (first_chunks 2 m xs) ≡ m
pairs-length zero xs = refl
pairs-length (suc m) xs = ap (λ k. suc k) (pairs-length m (drop 2 xs))

pairs_lines : (letter m : ℕ) (xs : List ℕ) → 2 * m ≤ length xs → pair_lines letter (first_chunks 2 m xs) ≡ zone_lines letter xs m
pairs_lines letter m xs l =
    rw (pairs-length m xs) (joined_cong _ _ m (λ k r. rw (pair_at m k xs r l) refl))

-- the zones of a bit whose letter is written, in an array with places for those of the longest road that is listed: their number is not
-- refused, and the front of the array holds them
module _ (marks list : List ℕ) (b : ℕ) (bit : b < length bit_letters) (some : 0 < length marks) (short : length marks ≤ greatest_short_road + 1)
    (places : length list ≡ greatest_short_road + 2) where
  good : list_outside (length marks) ≡ false
  good = not_outside 1 greatest_list (length marks) (omega arith)

  room : 2 * zone_count marks b (length marks) ≤ length list
  room = omega (arith, zones_at_most marks b (length marks))

  pub zones_counted : result_unwrap_or (zones_answer marks b list) 0 ≡ zone_count marks b (length marks)
  zones_counted = rw (zones_by_room marks list b _ (omega arith) good refl, le-ltb (length list) _ room) refl

  pub zones_front : take (2 * zone_count marks b (length marks)) (zones_list marks b list) ≡ zone_ends marks b (length marks)
  zones_front =
      let all = zone_ends marks b (length marks) in
      let fits : Room all 0 list = record { fits = omega (arith, zone_ends_twice marks b, room) } in
      wrote_front fits (record { behind = omega (arith, zone_ends_twice marks b); text = zones_list_placed marks list b (omega arith) good room })

pub bit_pairs : (marks : List ℕ) (b : ℕ) → let ends = zone_ends marks b (length marks) in
    pair_lines (get_or bit_letters b 0) (first_chunks 2 (length ends / 2) ends) ≡ bit_lines marks b
unfolding bit_lines
bit_pairs marks b =
    let ends = zone_ends marks b (length marks) in let twice = zone_ends_twice marks b in
    let half : length ends / 2 ≡ zone_count marks b (length marks) = omega arith in
    rw half (pairs_lines _ _ ends (omega arith))

-- ---- marks: the first N + 1 places of a list with room for them
pub own_marks_front : (r : Road) (list : List ℕ) → short_road_verdict r ≡ accepted → r.length + 1 ≤ length list →
    take (r.length + 1) (mark_road_list greatest_short_road r forward list) ≡ own_marks r
unfolding own_marks mark_road_list mark_road_answer
own_marks_front r list e l = ends_front (road_mark r forward) (short_road_verdict r) (r.length + 1) list 0 e l

pub ruleset bit_zones = (zones_counted, zones_front, zones_at_most, bit_pairs, length-take-le)

pub ruleset road_marks = (own_marks_front, accepted_road, put_join, length-take-le)
