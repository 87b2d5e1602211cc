-- One sight, up to a distance not below either, tells where stopping and decision are lacking.
use mathlib.Core.Path.{◌≡◌, refl, sym, ◌∙◌}
use mathlib.Core.Bool.{Bool, true, false, not, ◌&&◌, ◌||◌}
use mathlib.Core.List.{List}
use Prim.Native.Nat.{ℕ, zero, suc, ◌≤◌, ◌<◌, min}
use native.Mathlib.Omega.{arith}
use Rattle.std.proofs.lemmas.Bool.Decides.{nat_tests}
use borrow.Author.Tests.{lt-leb}
use lib.Dec.{T, ltb}
use lib.IntN.{ℤ}
use lib.ListN.{length}
use Rattle.terms.specs.Answers.{value_or_zero, accepted}
use Rattle.terms.specs.Limits.{greatest_list, greatest_farthest, greatest_height, eye_height, object_height}
use Rattle.terms.proofs.Laws.{not_outside, heights_not_outside}
use Rattle.distance.specs.declared.Distances.{Distances}
use Rattle.distance.specs.Distance.{distances_for}
use Rattle.distance.proofs.Laws.{distances_at_most}
use Rattle.verdicts.specs.Verdicts.{look_verdict, sight_verdict, marks_verdict}
use Rattle.verdicts.proofs.Laws.{marks_in_range}
use Rattle.sight.specs.Sight.{available_sight}
use Rattle.sight.specs.Operations.{sight_toward, sight_answer}
use Rattle.sight.proofs.Answers.{sight_number}
use Rattle.sight.proofs.Reach.{sight_min}
use Rattle.sight.proofs.Toward.{toward_le_far}
use Rattle.directions.specs.Directions.{faced, counted}
use Rattle.directions.proofs.Laws.{faced-length}
use Rattle.marks.specs.Markable.{Markable}
use Rattle.marks.specs.Marks.{marked, judged, lacking_at, mark_of, mark_toward}

-- ---- any eye and object
ltb_min : (a s : ℕ) → ltb (min a s) a ≡ ltb s a
ltb_min a s = grind (arith, nat_tests)

module _ (heights : List ℤ) (i e o : ℕ) where
  -- what is seen up to a farther distance tells whether sight is below a nearer one
  pub lacking_farther : (R far : ℕ) → R ≤ far → ltb (available_sight heights i e o far) R ≡ lacking_at e o heights R i
  lacking_farther R far l = rw (sight_min heights i e o R far l) (sym (ltb_min R (available_sight heights i e o far)))

  -- the value of a sight in a direction that is asked for in its ranges; up to 0 m, where asking is refused, there is none
  pub sight_value : (back : Bool) (far : ℕ) → i < length heights → length heights ≤ greatest_list → (1 ≤ e) × (e ≤ greatest_height) →
      (1 ≤ o) × (o ≤ greatest_height) → far ≤ greatest_farthest →
      value_or_zero (sight_answer heights back i e o far) ≡ sight_toward heights back i e o far
  unfolding sight_answer sight_verdict look_verdict
  sight_value back zero l m p q n =
      simp (not_outside 1 greatest_list (length heights) (omega arith, m), lt-leb (length heights) i l, heights_not_outside e o p q)
      (omega (arith, toward_le_far heights back i e o 0))
  sight_value back (suc k) l m p q n = rw (sight_number heights back i e o (suc k) l m record { eye = p; object = q; farthest = (omega arith, n) })

-- ---- the mark
-- what the judged and the lacking make of the five bits
abbrev marked_by : Bool → Bool → Bool → Bool → ℕ
marked_by stop decide s d = marked (stop && s) (decide && d) (decide && d && (stop && not s)) (not stop) (not decide)

-- what is lacking counts only where one distance or the other is judged
marked_cong : (stop decide s d s' d' : Bool) → (T (stop || decide) → (s ≡ s') × (d ≡ d')) →
    marked_by stop decide s d ≡ marked_by stop decide s' d'
marked_cong true decide s d s' d' p = rw ((p tt).0, (p tt).1) refl
marked_cong false true s d s' d' p = rw (p tt).1 refl
marked_cong false false s d s' d' p = refl

-- the sight up to a distance not below either makes the mark; it is not asked for where neither is judged
mark_by_sight : (heights : List ℤ) (i : ℕ) (d : Distances) (far s : ℕ) → d.stopping ≤ far → d.decision ≤ far →
    let stop = judged heights d.stopping i in let decide = judged heights d.decision i in
    (T (stop || decide) → s ≡ available_sight heights i eye_height object_height far) →
    marked_by stop decide (ltb s d.stopping) (ltb s d.decision) ≡ mark_of heights d i
unfolding mark_of
mark_by_sight heights i d far s l m e =
    let lacking = lacking_farther heights i eye_height object_height in
    marked_cong (judged heights d.stopping i) (judged heights d.decision i) _ _ _ _
    (λ t. (rw (e t) (lacking d.stopping far l), rw (e t) (lacking d.decision far m)))

-- the same in a direction: at the station's place among the heights as the driver meets them, which are as many, by what sight answers
pub mark_by_answer : (heights : List ℤ) (back : Bool) (i place : ℕ) (d : Distances) (far s : ℕ) → i < length heights → Markable heights d →
    place ≡ counted back (length heights) i → d.stopping ≤ far → d.decision ≤ far → far ≤ greatest_farthest →
    let stop = judged heights d.stopping place in let decide = judged heights d.decision place in
    (T (stop || decide) → s ≡ value_or_zero (sight_answer heights back i eye_height object_height far)) →
    marked_by stop decide (ltb s d.stopping) (ltb s d.decision) ≡ mark_toward heights back d i
unfolding mark_toward sight_toward
mark_by_answer heights back i place d far s on able p l m most e =
    let seen = sight_value heights i eye_height object_height back far on able.short (omega arith) (omega arith) most in
    rw (← p, ← faced-length back heights)
    (mark_by_sight (faced back heights) place d far s l m
    (rw (faced-length back heights, p) (λ t. (rw p at e) t ∙ seen)))

-- ---- what marking a list asks: accepted heights are few enough, and sight can be asked for up to the distances
pub markable : (speed purpose : ℕ) (grade driven : ℤ) (heights : List ℤ) (d : Distances) → marks_verdict speed purpose grade (length heights) ≡ accepted →
    d ≡ distances_for speed purpose driven → Markable heights d
markable speed purpose grade driven heights d accepted is =
    let metres = distances_at_most speed purpose driven in
    rw is
    record { short = (marks_in_range speed purpose grade (length heights) accepted).stations.1; stopping = omega arith; decision = omega arith }
