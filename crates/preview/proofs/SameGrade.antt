-- A changed length changes no grade: a curve keeps its grade out, whatever its length is.
use Prim.Native.Nat.{ℕ, zero, suc}
use mathlib.Core.List.{List, [], ◌∷◌, map}
use mathlib.Core.Path.{◌≡◌, refl, ap}
use lib.IntN.{ℤ}
use lib.ListN.{take, get_or, set}
use Rattle.road.specs.declared.Curve.{Curve}
use Rattle.road.specs.Road.{no_curve}
use Rattle.road_distances.specs.RoadDistances.{steepest_grade, road_distances}
use Rattle.change.specs.Change.{of_length, with_length}
use Rattle.preview.specs.SameGrade.{SameGrade}

abbrev out : Curve → ℤ
out c = c.grade_out

outs_stay : (n : ℕ) (cs : List Curve) (k l : ℕ) →
    map out (take n (set cs k (of_length l (get_or cs k no_curve)))) ≡ map out (take n cs)
outs_stay zero cs k l = refl
outs_stay (suc n) [] k l = refl
outs_stay (suc n) (c ∷ cs) zero l = refl
outs_stay (suc n) (c ∷ cs) (suc k) l = ap (λ (gs : List ℤ). out c ∷ gs) (outs_stay n cs k l)

pub same_grade : SameGrade
unfolding with_length road_distances
same_grade r k l back =
    let same = ap (λ (gs : List ℤ). r.first_grade ∷ gs) (outs_stay r.count r.curves k l) in
    record { grades = same; grade = ap (steepest_grade back) same; distances = rw same refl }
