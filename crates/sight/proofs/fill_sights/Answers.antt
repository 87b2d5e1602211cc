-- `fill_sights`: the comparisons of the code are those of the laws in proofs/Steepest.antt, as every height fits 32 bits and every distance
-- is at most 8,000.
use Rattle.std.proofs.Common.{◌≡◌, ◌+◌, ◌-◌, ◌^◌, ◌<◌, ◌≤◌, ◌+ℤ◌, ℕ, ℤ, pos, true, Bool, List, length, min, FitsSigned, w32, w64, to_z, of_z, sym, ap, ◌∙◌, rules, arith}
use borrow.Author.Rules.{sfits_of}
use Rattle.std.proofs.lemmas.Int.{ints}
use Rattle.whole.proofs.Fill.{filled_next}
use Rattle.whole.proofs.Range.{Reads, nat_b, as_b, Below, count_b, count_r, fits_by, same_by, sizes, reads}
use Rattle.whole.proofs.Machine.{le_yes, le_no, lt_yes, lt_no}
use Rattle.directions.specs.Directions.{faced, counted}
use Rattle.directions.proofs.Laws.{faced-length, faced_at, counted_below, counted_twice}
use Rattle.sight.specs.Sight.{height_at}
use Rattle.sight.specs.Operations.{sight_toward}
use Rattle.sight.specs.Comparisons.{comparisons_toward}
use Rattle.sight.proofs.Counted.{total_next, Counted, counted_none, counted_once, counted_both, counted_all, counted_hidden}
use Rattle.sight.proofs.Steepest.{NoSteeper, Flatter, rise, rise_under, Passed, passed_none, passed_steep, passed_seen, passed_hidden, passed_all}
use Rattle.sight.proofs.Widened.{read_as, look_b, look_as, Small, small_b, small_by}
use Rattle.sight.proofs.fill_sights.Goals.{then-next-end, then-line-road, else-line-road+else-road-object, else-next-end+else-line-road+then-road-object}
use Rattle.sight.proofs.fill_sights.Goals as goal

-- ---- what the code computes with: heights that fit 32 bits, and counts that are small
there_is : (list : List ℤ) (back : Bool) (k at : ℕ) → k < length list → at ≡ counted back (length list) k →
    height_at list at ≡ height_at (faced back list) k
there_is list back k at l e = rw e (sym (faced_at back list k (pos 0) l))

here_is : (list : List ℤ) (back : Bool) (station i : ℕ) → station < length list → i ≡ counted back (length list) station →
    height_at list station ≡ height_at (faced back list) i
here_is list back station i l e =
    let n = length list in
    rw e
    (sym
    (faced_at back list (counted back n station) (pos 0) (counted_below back n station l)
    ∙ ap (height_at list) (counted_twice back n station l)))

record Known (met : List ℤ) (i e o bits run next : ℕ) (here there height object : ℤ) : Type 0 where
  here_is : Reads (to_z w64 (of_z w64 here)) (height_at met i)
  there_is : Reads (to_z w64 (of_z w64 there)) (height_at met (i + next))
  e_is : Reads (to_z w64 (of_z w64 height)) (pos e)
  o_is : Reads (to_z w64 (of_z w64 object)) (pos o)
  next_is : Reads (to_z w64 next) (pos next)
  run_is : Reads (to_z w64 run) (pos run)
  rise_is : Reads (to_z w64 bits) (rise (height_at met) e i run)

abbrev known : (list : List ℤ) (back : Bool) {station at i e o bits run next : ℕ} {here there height object : ℤ} →
    i ≡ counted back (length list) station → at ≡ counted back (length list) (i + next) →
    (here ≡ to_z w32 (of_z w32 (height_at list station))) × (there ≡ to_z w32 (of_z w32 (height_at list at))) →
    (height ≡ pos e) × (object ≡ pos o) →
    to_z w64 bits ≡ rise (height_at (faced back list)) e i run → Small (to_z w64 bits) →
    (station < length list) × (i + next < length list) × (run ≤ next) × (next ≤ 8001) × (e < 2 ^ 32) × (o < 2 ^ 32) →
    FitsSigned w32 (height_at list station) × FitsSigned w32 (height_at list at) →
    Known (faced back list) i e o bits run next here there height object
known list back {station} {i} {e} {o} {bits} {run} {next} p q read look rises small size fits = record {
  here_is = read_as read.0 fits.0 (here_is list back station i (omega arith) p);
  there_is = read_as read.1 fits.1 (there_is list back (i + next) _ (omega arith) q);
  e_is = look_as look.0 (omega arith);
  o_is = look_as look.1 (omega arith);
  next_is = count_r w64 next 8001 (omega arith);
  run_is = count_r w64 run 8001 (omega arith);
  rise_is = record { size = small_b small; good = true; same = λ t. rises };
}

-- ---- the search yields the station's sight, with the station's comparisons: it comes to its end, or to a hidden station
module _ (list : List ℤ) (back : Bool) (station far : ℕ) {i e o run next before now : ℕ} (here : i ≡ counted back (length list) station)
    (c : Counted (faced back list) i e before now next) (w : Passed (height_at (faced back list)) e o i run next) where
  all_seen : next ≡ min far (length list - 1 - i) + 1 →
      (next - 1 ≡ sight_toward list back station e o far) × (now ≡ before + comparisons_toward list back station e o far)
  unfolding sight_toward comparisons_toward
  all_seen p =
      let end : next ≡ min far (length (faced back list) - 1 - i) + 1 = rw (faced-length back list) p in
      rw (← here) (passed_all _ _ w end, counted_all c w _ end)

  next_hidden : next ≤ min far (length list - 1 - i) →
      Flatter (rise (height_at (faced back list)) e i next) next (rise (height_at (faced back list)) e i run) run →
      Flatter (rise (height_at (faced back list)) e i next +ℤ pos o) next (rise (height_at (faced back list)) e i run) run →
      (next - 1 ≡ sight_toward list back station e o far) × (now + 1 + 1 ≡ before + comparisons_toward list back station e o far)
  unfolding sight_toward comparisons_toward
  next_hidden p road object =
      let end : next ≤ min far (length (faced back list) - 1 - i) = rw (faced-length back list) p in
      rw (← here) (passed_hidden _ _ w end object, counted_hidden c w _ end road object)

pub overflow_sub-road : goal.overflow_sub-road
overflow_sub-road c = omega (arith, ints)

pub overflow_mul-line : goal.overflow_mul-line
overflow_mul-line c =
    let l = c.search in
    let rise = small_b l.invariant.small in
    let next = count_b w64 l.next 8001 (omega arith) in
    fits_by (search sizes depth 16) tt

pub overflow_mul-road : goal.overflow_mul-road
overflow_mul-road c =
    let height = look_b c.from-height.ensures (omega arith) in let run = count_b w64 c.search.run 8001 (omega arith) in
    let here : Below c.from.result = as_b c.from.ensures (search (sizes, sfits_of)) in
    let there : Below c.from-in-search.result = as_b c.from-in-search.ensures (search (sizes, sfits_of)) in
    fits_by (search sizes depth 16) tt

pub overflow_add-road : goal.overflow_add-road
overflow_add-road c = omega (arith, ints)

pub overflow_mul-road-else-line-road : goal.overflow_mul-road-else-line-road
overflow_mul-road-else-line-road c =
    let height = look_b c.from-height.ensures (omega arith) in let object = look_b c.from-object.ensures (omega arith) in
    let here : Below c.from.result = as_b c.from.ensures (search (sizes, sfits_of)) in
    let there : Below c.from-in-search.result = as_b c.from-in-search.ensures (search (sizes, sfits_of)) in
    let run = count_b w64 c.search.run 8001 (omega arith) in
    fits_by (search sizes depth 16) tt

pub search-preserved : goal.search-preserved
search-preserved c =
    let s = c.args in let l = c.search.invariant in let run = c.search.run in let next = c.search.next in
    let up : ℕ → ℤ = rise (height_at (faced s.back s.heights.now)) s.look.eye c.counted-i.result in
    let k = known _ _ c.counted-i.ensures c.counted-at.ensures (c.from.ensures, c.from-in-search.ensures)
    (c.from-height.ensures, c.from-object.ensures) l.rises l.small (omega arith) (search rules) in
    elim c.if-line-road.branch [
      | then-line-road w ↦
          let steeper : NoSteeper (up run) run (up next) next = le_yes w.if-line-road.true (search reads depth 20) tt in
          record {
            end_is = l.end_is;
            within = omega arith;
            behind = omega arith;
            small = rw w.rise-is (small_by (search sizes depth 16) tt);
            few = omega arith;
            rises = rw w.run-is (w.rise-is ∙ same_by (search reads depth 20) tt);
            passed = rw w.run-is (passed_steep l.passed steeper);
            counted = rw w.compared-is (counted_once l.counted l.passed steeper);
          }
      | else-line-road+else-road-object w ↦
          let flatter : Flatter (up next) next (up run) run = le_no w.if-line-road.false (search reads depth 20) tt in
          record {
            end_is = l.end_is;
            within = omega arith;
            behind = omega arith;
            small = rw w.rise-is l.small;
            few = omega arith;
            rises = rw w.run-is (w.rise-is ∙ l.rises);
            passed = rw w.run-is (passed_seen l.passed flatter (lt_no w.if-road-object.false (search reads depth 20) tt));
            counted = rw w.compared-is (counted_both l.counted l.passed flatter);
          }
    ]

pub loop-k-preserved : goal.loop-k-preserved
loop-k-preserved c =
    let s = c.args in let list = s.heights.now in let station : ℕ = s.first + c.loop-k.k in let l = c.search.invariant in
    let sight : ℕ → ℕ = λ t. sight_toward list s.back (s.first + t) s.look.eye s.look.object s.look.farthest in
    let count : ℕ → ℕ = λ t. comparisons_toward list s.back (s.first + t) s.look.eye s.look.object s.look.farthest in
    let ended : (c.if-next-end.sight ≡ sight c.loop-k.k) × (c.if-next-end.compared ≡ c.loop-k.compared + count c.loop-k.k) × (c.if-next-end.compared ≤ c.loop-k.compared + 16000) =
    elim c.if-next-end.branch [
      | then-next-end w ↦
          let all = all_seen list s.back station s.look.farthest c.counted-i.ensures l.counted l.passed (omega arith) in
          (omega (arith, all.0), omega (arith, all.1), omega arith)
      | else-next-end+else-line-road+then-road-object w ↦
          let k = known list s.back c.counted-i.ensures w.counted-at.ensures (c.from.ensures, w.from-in-search.ensures)
          (c.from-height.ensures, c.from-object.ensures) l.rises l.small (omega arith) (search rules) in
          let hidden = next_hidden list s.back station s.look.farthest c.counted-i.ensures l.counted l.passed (omega arith) (le_no w.if-line-road.false (search reads depth 20) tt) (lt_yes w.if-road-object.true (search reads depth 20) tt) in
          (omega (arith, hidden.0), omega (arith, hidden.1), omega arith)
    ] in
    record {
      places = filled_next sight c.loop-k.k _ _ _ c.loop-k.invariant.places ended.0;
      few = omega (arith, ended.2);
      counted = omega (arith, ended.1, total_next count c.loop-k.k);
    }

pub search-init : goal.search-init
search-init c =
    let s = c.args in
    let on = counted_below s.back (length s.heights.now) (s.first + c.loop-k.k) (omega arith) in
    let none = nat_b {k = 0} 0 (omega arith) in let height = look_b c.from-height.ensures (omega arith) in
    record {
      end_is = omega arith;
      within = omega arith;
      behind = omega arith;
      small = small_by (search sizes depth 16) tt;
      few = omega arith;
      rises = omega (arith, ints, rise_under (height_at (faced s.back s.heights.now)) s.look.eye c.counted-i.result);
      passed = passed_none;
      counted = counted_none _ _ _ _;
    }
