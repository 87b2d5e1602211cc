-- No listing is longer than the array that it is written into: a number has at most 5 digits, and of a bit's zones there are at most
-- half as many as stations.
use Prim.Native.Nat.{ℕ, zero, suc, ◌+◌, ◌*◌, ◌/◌, ◌%◌, ◌≤◌, ◌<◌}
use mathlib.Core.Path.{◌≡◌, refl, ◌∙◌}
use mathlib.Core.Bool.{Bool, true, false, cond}
use mathlib.Core.List.{List, [], ◌∷◌}
use borrow.Author.Tests.{lt-ltb}
use native.Mathlib.Omega.{arith}
use lib.Dec.{ltb}
use lib.ListN.{length, get_or, replicate, length-append, length-replicate}
use Rattle.whole.proofs.Table.{each_at}
use Rattle.terms.specs.Refusals.{number}
use Rattle.terms.specs.Limits.{greatest_short_road}
use Rattle.terms.specs.Answers.{Verdict, accepted}
use Rattle.std.specs.Prelude.{Ok, Err}
use Rattle.terms.proofs.Laws.{written-length}
use Rattle.distance.specs.declared.Distances.{Distances}
use Rattle.road.specs.declared.Road.{Road}
use Rattle.road.specs.Road.{short_road_verdict}
use Rattle.road.proofs.Accepted.{accepted_road}
use Rattle.directions.specs.Directions.{forward}
use Rattle.road_distances.specs.RoadDistances.{road_distances}
use Rattle.road_distances.proofs.Laws.{road_distances_at_most}
use Rattle.file.specs.File.{letters, road_in}
use Rattle.file.specs.Reading.{read_up_to, short_read_verdict}
use Rattle.file.proofs.Sound.{accepted_file, read_by}
use Rattle.road_marks.specs.RoadMarks.{road_mark, mark_road_answer, mark_road_list}
use Rattle.zones.specs.Zones.{zone_ends, zone_count}
use Rattle.zones.proofs.Laws.{zones_at_most}
use Rattle.listing.specs.Listing.{joined, digit, item, line, refused_word, first_line, zone_line, bit_letters, bit_lines, own_marks, road_text, text_of, listing, HoldsListings}
use Rattle.listing.specs.Put.{most_zones, greatest_listing}

-- ---- items
digit_at_most : (p x : ℕ) → length (digit p x) ≤ 1
unfolding digit
digit_at_most p x = one_or_none (ltb x p)
  where
    one_or_none : (test : Bool) → length (cond test [] ((48 + x / p % 10) ∷ [])) ≤ 1
    one_or_none true = omega arith
    one_or_none false = omega arith

digit_none : (p x : ℕ) → x < p → length (digit p x) ≡ 0
unfolding digit
digit_none p x h = rw (lt-ltb x p h) refl

item-length : (x : ℕ) →
    length (item x) ≡ 2 + length (digit 10000 x) + length (digit 1000 x) + length (digit 100 x) + length (digit 10 x)
unfolding item
item-length x = simp length-append (omega arith)

item_at_most : (x : ℕ) → length (item x) ≤ 6
item_at_most x =
    omega (arith, item-length x, digit_at_most 10000 x, digit_at_most 1000 x, digit_at_most 100 x, digit_at_most 10 x)

small_item_at_most : (x : ℕ) → x < 1000 → length (item x) ≤ 4
small_item_at_most x h =
    omega (arith, item-length x, digit_none 10000 x (omega arith), digit_none 1000 x h, digit_at_most 100 x, digit_at_most 10 x)

-- ---- lines
joined_at_most : (f : ℕ → List ℕ) (m n : ℕ) → ((k : ℕ) → length (f k) ≤ m) → length (joined f n) ≤ m * n
unfolding joined
joined_at_most f m zero h = omega arith
joined_at_most f m (suc n) h = simp length-append (omega (arith, h n, joined_at_most f m n h))

line_at_most : (word numbers : List ℕ) (m : ℕ) → ((k : ℕ) → length (item (get_or numbers k 0)) ≤ m) →
    length (line word numbers) ≤ length word + m * length numbers + 1
unfolding line
line_at_most word numbers m h = simp length-append (omega (arith, joined_at_most (λ k. item (get_or numbers k 0)) m (length numbers) h))

first_at_most : (version speed : ℕ) (d : Distances) → version < 1000 → speed < 1000 → (d.stopping < 1000) × (d.decision < 1000) → length (first_line version speed d) ≤ 22
first_at_most version speed d v h small =
    let numbers = version ∷ speed ∷ d.stopping ∷ d.decision ∷ [] in
    let each : (k : ℕ) → length (item (get_or numbers k 0)) ≤ 4 =
    λ k. small_item_at_most (get_or numbers k 0) (each_at (λ (x : ℕ). x < 1000) numbers k 0 (omega arith) (λ _. omega arith)) in
    omega (arith, line_at_most letters numbers 4 each)

zone_at_most : (letter first last : ℕ) → length (zone_line letter first last) ≤ 14
zone_at_most letter first last = line_at_most (letter ∷ []) (first ∷ last ∷ []) 6 (λ k. item_at_most _)

-- ---- the text of a road
bit_at_most : (marks : List ℕ) → length marks ≤ greatest_short_road + 1 → (b : ℕ) → length (bit_lines marks b) ≤ 14 * most_zones
unfolding bit_lines
bit_at_most marks h b =
    let n = length marks in let ends = zone_ends marks b n in
    let zone : ℕ → List ℕ = λ k. zone_line (get_or bit_letters b 0) (get_or ends (2 * k) 0) (get_or ends (2 * k + 1) 0) in
    omega (arith, joined_at_most zone 14 (zone_count marks b n) (λ k. zone_at_most _ _ _), zones_at_most marks b n)

own_marks-length : (r : Road) → length (own_marks r) ≡ r.length + 1
unfolding own_marks mark_road_list
own_marks-length r =
    written-length (road_mark r forward) (mark_road_answer greatest_short_road r (replicate (r.length + 1) 0)) (replicate (r.length + 1) 0)
    ∙ length-replicate {A = ℕ} (r.length + 1) 0

road_at_most : (r : Road) → short_road_verdict r ≡ accepted → length (road_text r) ≤ greatest_listing
unfolding road_text
road_at_most r accepted =
    let stations : length (own_marks r) ≤ greatest_short_road + 1 = omega (arith, own_marks-length r, (accepted_road r accepted).length_high) in
    let zones = joined_at_most (bit_lines (own_marks r)) (14 * most_zones) (length bit_letters) (bit_at_most (own_marks r) stations) in
    let small = road_distances_at_most r forward in
    let road = accepted_road r accepted in
    let first = first_at_most r.version r.speed (road_distances r forward) (omega (arith, road.version_high)) (omega (arith, road.speed_high)) (omega arith) in
    simp length-append (omega (arith, first))

pub listing_at_most : HoldsListings greatest_listing
unfolding listing
listing_at_most file = go (short_read_verdict file) refl
  where
    go : (v : Verdict) → short_read_verdict file ≡ v → length (text_of (read_up_to greatest_short_road file)) ≤ greatest_listing
    go (Ok _) e = rw (read_by greatest_short_road file accepted e) (road_at_most (road_in file) (accepted_file file e).road)
    go (Err k) e = rw (read_by greatest_short_road file (Err k) e) (omega (arith, line_at_most refused_word (number k ∷ []) 6 (λ _. item_at_most _)))
