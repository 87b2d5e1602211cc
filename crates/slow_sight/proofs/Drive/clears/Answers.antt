-- `clears`: the machine computes both sides of the inequality and compares them as whole numbers, since every height fits 32 bits and every
-- distance is at most 8,000.
use Rattle.std.proofs.Common.{◌≡◌, ◌+ℤ◌, ◌*ℤ◌, ◌-◌, ℕ, ℤ, Bool, pos, w64, arith}
use borrow.Author.Rules.{sfits_of}
use lib.Dec.{T}
use lib.Signed.{le_z}
use Rattle.whole.proofs.Range.{Below, Tests, as_b, count_b, count_r, fits_by, sizes, reads}
use Rattle.terms.specs.Limits.{greatest_farthest}
use Rattle.sight.specs.Sight.{clears}
use Rattle.sight.proofs.Widened.{read_as, look_b, look_as}
use Rattle.slow_sight.proofs.Drive.clears.Goals as goal

pub overflow_mul-result : goal.overflow_mul-result
overflow_mul-result c =
    let road : Below c.from-road.result = as_b c.from-road.ensures (search (sizes, sfits_of)) in
    let whole = count_b w64 (c.args.j - c.args.i) greatest_farthest (omega arith) in
    fits_by (search sizes depth 16) tt

pub overflow_mul-result-2 : goal.overflow_mul-result-2
overflow_mul-result-2 c =
    let here : Below c.from.result = as_b c.from.ensures (search (sizes, sfits_of)) in let e = look_b c.from-2.ensures (omega arith) in
    let ahead = count_b w64 (c.args.j - c.args.k) greatest_farthest (omega arith) in
    fits_by (search sizes depth 16) tt

pub overflow_mul-result-3 : goal.overflow_mul-result-3
overflow_mul-result-3 c =
    let there : Below c.from-3.result = as_b c.from-3.ensures (search (sizes, sfits_of)) in let o = look_b c.from-4.ensures (omega arith) in
    let behind = count_b w64 (c.args.k - c.args.i) greatest_farthest (omega arith) in
    fits_by (search sizes depth 16) tt

pub overflow_add-result : goal.overflow_add-result
overflow_add-result c =
    let here : Below c.from.result = as_b c.from.ensures (search (sizes, sfits_of)) in let e = look_b c.from-2.ensures (omega arith) in
    let there : Below c.from-3.result = as_b c.from-3.ensures (search (sizes, sfits_of)) in let o = look_b c.from-4.ensures (omega arith) in
    let ahead = count_b w64 (c.args.j - c.args.k) greatest_farthest (omega arith) in
    let behind = count_b w64 (c.args.k - c.args.i) greatest_farthest (omega arith) in
    fits_by (search sizes depth 16) tt

-- what the machine compares are the two sides of the inequality
clears_by : {p : Bool} (h : ℕ → ℤ) (e o i j k : ℕ)
    (u : Tests p (le_z (h k *ℤ pos (j - i)) ((h i +ℤ pos e) *ℤ pos (j - k) +ℤ (h j +ℤ pos o) *ℤ pos (k - i)))) → T u.good →
    p ≡ clears h e o i j k
unfolding clears
clears_by h e o i j k u t = u.same t

pub returns : goal.returns
returns c =
    let s = c.args in
    let here = read_as c.from.ensures (search sfits_of) c.height.ensures in let e = look_as c.from-2.ensures (omega arith) in
    let there = read_as c.from-3.ensures (search sfits_of) c.height-2.ensures in let o = look_as c.from-4.ensures (omega arith) in
    let between = read_as c.from-road.ensures (search sfits_of) c.height-3.ensures in
    let whole = count_r w64 (s.j - s.i) greatest_farthest (omega arith) in
    let ahead = count_r w64 (s.j - s.k) greatest_farthest (omega arith) in
    let behind = count_r w64 (s.k - s.i) greatest_farthest (omega arith) in
    clears_by _ _ _ _ _ _ (search reads depth 20) tt
