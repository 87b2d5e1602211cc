-- `search`: the walk over one station fills its one place with the station's sight, and compares as many lines as the search from it does,
-- which is at most two for each metre up to the farthest distance.
use Rattle.std.proofs.Common.{◌≡◌, ◌+◌, ◌*◌, ◌≤◌, ◌∷◌, [], ℕ, ℤ, Bool, List, get_or, sym, ◌∙◌, arith}
use Rattle.whole.specs.Fill.{filled}
use Rattle.terms.specs.Limits.{greatest_farthest}
use Rattle.verdicts.proofs.Laws.{sight_in_range}
use Rattle.sight.specs.Operations.{sight_toward}
use Rattle.sight.specs.Comparisons.{total, comparisons_toward}
use Rattle.sight.proofs.Counted.{comparisons_walk}
use Rattle.sight.proofs.search.Goals as goal

-- what the one place holds, and the walk over it
one_held : (f : ℕ → ℕ) (i : ℕ) (out : List ℕ) → out ≡ filled (λ k. f (i + k)) 0 1 (0 ∷ []) → get_or out 0 0 ≡ f i
unfolding filled
one_held f i out p = let q : i + 0 ≡ i = omega arith in rw (p, q)

one_total : (f : ℕ → ℕ) (i : ℕ) → total (λ k. f (i + k)) 1 ≡ f i
unfolding total
one_total f i = let q : i + 0 ≡ i = omega arith in rw q (omega arith)

one_most : (list : List ℤ) (back : Bool) (i e o far n : ℕ) → n ≡ total (λ k. comparisons_toward list back (i + k) e o far) 1 →
    far ≤ greatest_farthest → n ≤ greatest_farthest * 2
one_most list back i e o far n p l = omega (arith, comparisons_walk list back i e o far 1 l)

pub overflow_cast-result : goal.overflow_cast-result
overflow_cast-result c =
    let inside = sight_in_range _ _ _ _ _ (sym c.sight_verdict.ensures ∙ c.in_ok-sight_verdict.was) in
    omega (arith, one_most _ _ _ _ _ _ _ c.fill_sights-compared.ensures.compared inside.2.farthest.1)

pub returns : goal.returns
returns c =
    let s = c.args in
    let sight : ℕ → ℕ = λ i. sight_toward s.heights.now s.back i s.look.eye s.look.object s.look.farthest in
    let compared : ℕ → ℕ = λ i. comparisons_toward s.heights.now s.back i s.look.eye s.look.object s.look.farthest in (
      c.from.ensures ∙ one_held sight s.station _ c.fill_sights-compared.ensures.list,
      c.fill_sights-compared.ensures.compared ∙ one_total compared s.station,
      sym c.sight_verdict.ensures ∙ c.in_ok-sight_verdict.was,
    )
