-- What the machine computes along the road, on a curve and past it: each step fits its width and the outcome is what is meant, since the walk
-- is near enough to zero and a curve is short. A bend is small whatever the two grades are (`turn_size`), so that the steps that add it fit
-- by themselves, and the grades in their ranges are needed for the outcome alone.
use Prim.Native.Nat.{ℕ, ◌*◌, ◌/◌, ◌≤◌, ◌<◌}
use mathlib.Core.Bool.{true}
use mathlib.Core.Path.{◌≡◌, refl, sym, ap, ◌∙◌}
use native.Mathlib.Omega.{arith}
use lib.IntN.{ℤ, pos, nat_abs, neg_ℤ, ◌+ℤ◌, ◌-ℤ◌, ◌*ℤ◌}
use lib.Signed.{◌≤ℤ◌}
use mir.Syntax.{Width, w16, w32, w64}
use mir.Val.{SFits, to_z, of_z}
use Rattle.std.proofs.lemmas.Int.{ints}
use Rattle.whole.specs.Floor.{floor_div, floor}
use Rattle.whole.proofs.Floor.{floor_r}
use Rattle.whole.proofs.Range.{Below, Reads, literal_r, count_r, known_r, mul_r, read_r, fits_by, same_by, sizes, add_size, neg_size, range_size, reads as reading}
use Rattle.terms.specs.Limits.{greatest_grade, greatest_curve, greatest_long_road}
use Rattle.road.specs.declared.Curve.{Curve}
use Rattle.road.specs.Order.{CurveInRange}
use Rattle.heights.specs.Profile.{on_curve, end_height}
use Rattle.heights.proofs.Along.{height_bound, grade_out_size, turn_size, bend_size, curve_floor}

-- ---- what is read from its bits: a grade, a height and a number of metres
abbrev read16 : ℤ → ℤ
read16 z = to_z w16 (of_z w16 z)

abbrev read32 : ℤ → ℤ
read32 z = to_z w32 (of_z w32 z)

abbrev read64 : ℤ → ℤ
read64 z = to_z w64 (of_z w64 z)

-- whatever the bits are, a grade is no farther from zero than 16 bits reach
abbrev grade_bound : ℕ
grade_bound = 32768

any_grade_size : (m : ℕ) → nat_abs (to_z w16 m) ≤ grade_bound
any_grade_size m = omega (arith, ints)

abbrev any_grade : (g : ℤ) → Reads (read16 g) (read16 g)
any_grade g = record { size = record { b = grade_bound; ok = any_grade_size (of_z w16 g) }; good = true; same = λ _. refl }

abbrev grade_reads : (g : ℤ) → nat_abs g ≤ greatest_grade → Reads (read16 g) g
grade_reads g h = known_r w16 g greatest_grade h

grade_size : (g : ℤ) → neg_ℤ (pos greatest_grade) ≤ℤ g → g ≤ℤ pos greatest_grade → nat_abs g ≤ greatest_grade
grade_size g low high = range_size {a = greatest_grade} g (omega arith) low high

abbrev height_reads : (z : ℤ) → nat_abs z ≤ height_bound → Reads (read32 z) z
height_reads z h = known_r w32 z height_bound h

abbrev metres_reads : (w : Width) (d : ℕ) → d ≤ greatest_curve → Reads (to_z w d) (pos d)
metres_reads w d h = count_r w d greatest_curve h

-- ---- along the road
module _ (z g : ℤ) (d : ℕ) (hz : nat_abs z ≤ height_bound) (hg : nat_abs g ≤ greatest_grade) (hd : d ≤ greatest_long_road) where
  abbrev climb : ℤ
  climb = read32 (read32 (read16 g) *ℤ to_z w32 d)

  pub climb_fits : SFits w32 (read32 (read16 g) *ℤ to_z w32 d)
  climb_fits = let r = (grade_reads g hg).size in let m = (count_r w32 d greatest_long_road hd).size in fits_by (search sizes depth 16) tt

  pub road_fits : SFits w32 (read32 z +ℤ climb)
  road_fits =
      let h = (height_reads z hz).size in let r = (grade_reads g hg).size in let m = (count_r w32 d greatest_long_road hd).size in
      fits_by (search sizes depth 16) tt

  pub road_is : read32 (read32 z +ℤ climb) ≡ z +ℤ g *ℤ pos d
  road_is =
      let h = height_reads z hz in let r = grade_reads g hg in let m = count_r w32 d greatest_long_road hd in
      same_by (search reading depth 20) tt

-- ---- what is computed: the straight's height, the turn from one grade to another, and the bend's quotient
abbrev straight : ℤ → ℤ → ℕ → ℤ
straight z g d = read64 (read64 (read32 z) +ℤ read64 (read64 (read16 g) *ℤ to_z w64 d))

abbrev turn : ℤ → ℤ → ℤ
turn a b = read64 (read64 (read16 b) -ℤ read64 (read16 a))

abbrev quotient : ℤ → ℤ → ℕ → ℕ → ℤ
quotient a b L d = floor_div (read64 (read64 (turn a b *ℤ to_z w64 d) *ℤ to_z w64 d)) (read64 (pos 2 *ℤ to_z w64 L))

-- ---- on along the straight
module _ (g : ℤ) (d : ℕ) (hd : d ≤ greatest_curve) where
  pub along_fits : SFits w64 (read64 (read16 g) *ℤ to_z w64 d)
  along_fits = let r = (any_grade g).size in let m = (metres_reads w64 d hd).size in fits_by (search sizes depth 16) tt

  pub straight_fits : (z : ℤ) → nat_abs z ≤ height_bound → SFits w64 (read64 (read32 z) +ℤ read64 (read64 (read16 g) *ℤ to_z w64 d))
  straight_fits z hz =
      let r = (any_grade g).size in let m = (metres_reads w64 d hd).size in let h = (height_reads z hz).size in
      fits_by (search sizes depth 16) tt

-- ---- the bend
module _ (a b : ℤ) (d : ℕ) (hd : d ≤ greatest_curve) where
  pub once_fits : SFits w64 (turn a b *ℤ to_z w64 d)
  once_fits =
      let r = (any_grade a).size in let s = (any_grade b).size in let m = (metres_reads w64 d hd).size in
      fits_by (search sizes depth 16) tt

  pub twice_fits : SFits w64 (read64 (turn a b *ℤ to_z w64 d) *ℤ to_z w64 d)
  twice_fits =
      let r = (any_grade a).size in let s = (any_grade b).size in let m = (metres_reads w64 d hd).size in
      fits_by (search sizes depth 16) tt

  module _ (L : ℕ) (bend : ℤ) (short : L ≤ greatest_curve) (on : d ≤ L) (e : bend ≡ quotient a b L d) where
    bend_small : nat_abs bend ≤ grade_bound * greatest_curve
    bend_small =
        let r = any_grade a in let s = any_grade b in let m = metres_reads w64 d hd in
        let divisor : Reads (read64 (pos 2 *ℤ to_z w64 L)) (pos (2 * L)) = read_r w64 (mul_r (literal_r 2) (metres_reads w64 L short)) in
        let same : bend ≡ floor_div ((read16 b -ℤ read16 a) *ℤ pos d *ℤ pos d) (pos (2 * L)) = e ∙ same_by (search (reading, floor_r) depth 20) tt in
        let turns : nat_abs (read16 b -ℤ read16 a) ≤ 2 * grade_bound =
        add_size (read16 b) (neg_ℤ (read16 a)) _ _ s.size.ok (neg_size (read16 a) _ r.size.ok) in
        omega (arith, turn_size (read16 b -ℤ read16 a) grade_bound L d turns on, ap nat_abs same)

    -- ---- the height there: the straight's and the bend
    module _ (z g : ℤ) (hz : nat_abs z ≤ height_bound) where
      pub sum_fits : SFits w64 (straight z g d +ℤ read64 bend)
      sum_fits =
          let r = (any_grade g).size in let m = (metres_reads w64 d hd).size in let h = (height_reads z hz).size in
          let c : Below bend = record { b = grade_bound * greatest_curve; ok = bend_small } in
          fits_by (search sizes depth 16) tt

      pub height_fits : SFits w32 (read64 (straight z g d +ℤ read64 bend))
      height_fits =
          let r = (any_grade g).size in let m = (metres_reads w64 d hd).size in let h = (height_reads z hz).size in
          let c : Below bend = record { b = grade_bound * greatest_curve; ok = bend_small } in
          fits_by (search sizes depth 16) tt

-- it is the curve's, by the grades in their ranges
pub height_is : (z gin gout : ℤ) (L d : ℕ) (bend : ℤ) → nat_abs z ≤ height_bound → nat_abs gin ≤ greatest_grade → neg_ℤ (pos greatest_grade) ≤ℤ gout →
    gout ≤ℤ pos greatest_grade → L ≤ greatest_curve → 0 < d → d ≤ L → bend ≡ quotient gin gout L d →
    read32 (read64 (straight z gin d +ℤ read64 bend)) ≡ floor (on_curve z gin gout L d)
height_is z gin gout L d bend hz hin low high short positive on e =
    let hd : d ≤ greatest_curve = omega arith in let hout = grade_size gout low high in
    let r = grade_reads gin hin in let s = grade_reads gout hout in let m = metres_reads w64 d hd in let h = height_reads z hz in
    let divisor : Reads (read64 (pos 2 *ℤ to_z w64 L)) (pos (2 * L)) = read_r w64 (mul_r (literal_r 2) (metres_reads w64 L short)) in
    let same : bend ≡ floor_div ((gout -ℤ gin) *ℤ pos d *ℤ pos d) (pos (2 * L)) = e ∙ same_by (search (reading, floor_r) depth 20) tt in
    let b : Reads bend (floor_div ((gout -ℤ gin) *ℤ pos d *ℤ pos d) (pos (2 * L))) = record {
      size = record { b = greatest_grade * greatest_curve; ok = omega (arith, bend_size gin gout L d hin hout on, ap nat_abs same) };
      good = true;
      same = λ _. same;
    } in
    same_by (search reading depth 20) tt ∙ sym (curve_floor z gin gout L d (omega arith))

-- ---- past a curve
pub rise_fits : (gin gout : ℤ) (L : ℕ) → L ≤ greatest_curve → SFits w32 (read32 (read32 (read16 gin) +ℤ read32 (read16 gout)) *ℤ to_z w32 (L / 2))
rise_fits gin gout L short =
    let r = (any_grade gin).size in let s = (any_grade gout).size in let m = (metres_reads w32 (L / 2) (omega arith)).size in
    fits_by (search sizes depth 16) tt

module _ (z g : ℤ) (c : Curve) (hz : nat_abs z ≤ height_bound) (h : CurveInRange c) where
  abbrev rise : ℤ
  rise = read32 (read32 (read32 (read16 g) +ℤ read32 (read16 c.grade_out)) *ℤ to_z w32 (c.length / 2))

  pub end_fits : SFits w32 (read32 z +ℤ rise)
  end_fits =
      let r = (any_grade g).size in let s = (any_grade c.grade_out).size in
      let t = (height_reads z hz).size in let m = (metres_reads w32 (c.length / 2) (omega (arith, h.short))).size in
      fits_by (search sizes depth 16) tt

  pub end_is : nat_abs g ≤ greatest_grade → read32 (read32 z +ℤ rise) ≡ end_height z g c
  end_is hg =
      let r = grade_reads g hg in let s = grade_reads c.grade_out (grade_out_size h) in
      let t = height_reads z hz in let m = metres_reads w32 (c.length / 2) (omega (arith, h.short)) in
      same_by (search reading depth 20) tt

-- ---- for `on_straight`, `on_curve` and `on_end`
pub ruleset straight_steps = (climb_fits, road_fits, road_is)

pub ruleset curve_steps = (once_fits, twice_fits, along_fits, straight_fits, sum_fits, height_fits, height_is)

pub ruleset end_steps = (rise_fits, end_fits, end_is)
