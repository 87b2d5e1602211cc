-- The mirror's grades are the road's with the sign changed, in another order. So its steepest grade in one direction is the road's in the
-- other with the sign changed: it is as steep as each of them, and mirrored twice the road is the same.
use Prim.Native.Nat.{ℕ, ◌≤◌}
use mathlib.Core.Bool.{Bool, true, false, not}
use mathlib.Core.List.{List, [], ◌∷◌, ◌++◌, map}
use mathlib.Core.Path.{◌≡◌, ap₂, subst}
use lib.IntN.{ℤ, pos, neg_ℤ, neg_ℤ-neg_ℤ}
use lib.ListN.{length}
use Rattle.whole.proofs.Ring.{≤ℤ_antisym}
use Rattle.whole.proofs.Table.{Each, each_map}
use Rattle.terms.specs.Answers.{accepted}
use Rattle.road.specs.declared.Curve.{Curve}
use Rattle.road.specs.declared.Road.{Road}
use Rattle.road.specs.Road.{curves_of, road_verdict}
use Rattle.road_distances.specs.RoadDistances.{grades_of, steepest_grade, road_grade}
use Rattle.road_distances.proofs.Laws.{AsSteep, steepest_grade_is, steepest_grade_falls, steepest_grade_as_steep}
use Rattle.round_trip.specs.RoundTrip.{SameRoad}
use Rattle.mirror.specs.Mirror.{turned, mirrored, last_grade, mirror}
use Rattle.both_lanes.proofs.Accepted.{neg_le, mirror_curves, mirror_holds}
use Rattle.both_lanes.proofs.Twice.{mirrored_twice}

-- ---- what holds of each grade with the sign changed holds of each grade mirrored
abbrev outs : List Curve → List ℤ
outs cs = map (λ (c : Curve). c.grade_out) cs

module _ (P : ℤ → Type 0) where
  each_more : (cs : List Curve) (d : Curve) → Each P (outs cs) → P d.grade_out → Each P (outs (cs ++ (d ∷ [])))
  each_more [] d h p = (p, tt)
  each_more (c ∷ cs) d h p = (h.0, each_more cs d h.1 p)

  each_back : (n : ℕ) (g : ℤ) (cs : List Curve) → Each (λ (k : ℤ). P (neg_ℤ k)) (g ∷ outs cs) →
      Each P (neg_ℤ (last_grade g cs) ∷ outs (mirrored n g cs))
  unfolding last_grade mirrored
  each_back n g [] h = h
  each_back n g (c ∷ cs) h =
      let k = c.grade_out in let rest = each_back n k cs h.1 in
      (rest.0, each_more (mirrored n k cs) (turned n g c) rest.1 h.0)

-- ---- the sign changed, grades compare as in the other direction
neg_as_steep : (back : Bool) (g k : ℤ) → AsSteep (not back) g k → AsSteep back (neg_ℤ g) (neg_ℤ k)
neg_as_steep true g k h = neg_le h
neg_as_steep false g k h = neg_le h

as_steep_back : (r : Road) → r.count ≤ length r.curves → (back : Bool) →
    AsSteep back (neg_ℤ (road_grade r (not back))) (road_grade (mirror r) back)
unfolding mirror
as_steep_back r holds back =
    let g = road_grade r (not back) in let gs = grades_of r in
    rw (mirror_curves r holds)
    (steepest_grade_is (AsSteep back (neg_ℤ g)) back _ (neg_as_steep back g (pos 0) (steepest_grade_falls (not back) gs))
    (each_back (AsSteep back (neg_ℤ g)) r.length r.first_grade (curves_of r)
    (each_map (neg_as_steep back g) gs (steepest_grade_as_steep (not back) gs))))

-- ---- the mirror's steepest grade
same_grade : (a b : Road) (back : Bool) → SameRoad a b → road_grade a back ≡ road_grade b back
same_grade a b back s = ap₂ (λ (g : ℤ) (cs : List Curve). steepest_grade back (g ∷ outs cs)) s.grade s.curves

module _ (r : Road) (holds : r.count ≤ length r.curves) (ok : road_verdict r ≡ accepted) where
  as_steep_twice : (back : Bool) → AsSteep back (neg_ℤ (road_grade (mirror r) (not back))) (road_grade r back)
  as_steep_twice back =
      subst (AsSteep back _) (same_grade (mirror (mirror r)) r back (mirrored_twice r holds ok))
      (as_steep_back (mirror r) (mirror_holds r holds) back)

  pub mirror_grade : (back : Bool) → road_grade (mirror r) back ≡ neg_ℤ (road_grade r (not back))
  mirror_grade true =
      let g = road_grade (mirror r) true in
      ≤ℤ_antisym (as_steep_back r holds true) (rw (neg_ℤ-neg_ℤ g) at (neg_le (as_steep_twice false)))
  mirror_grade false =
      let g = road_grade (mirror r) false in
      ≤ℤ_antisym (rw (neg_ℤ-neg_ℤ g) at (neg_le (as_steep_twice true))) (as_steep_back r holds false)
