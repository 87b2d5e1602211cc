-- By the laws of `sight`: one comparison where the road is seen, two where it is not, and their sum, which is what is answered.
use mathlib.Core.Path.{ap}
use Prim.Native.Nat.{ℕ, ◌≤◌}
use native.Mathlib.Omega.{arith}
use lib.ListN.{length}
use Rattle.terms.specs.Answers.{unless, value_or_zero, Verdict}
use Rattle.std.specs.Prelude.{Ok, Err}
use Rattle.verdicts.specs.Verdicts.{sight_verdict}
use Rattle.directions.specs.Directions.{faced, counted}
use Rattle.sight.specs.Comparisons.{comparisons_toward, comparisons_answer}
use Rattle.sight.proofs.Counted.{one_or_two_most, comparisons_most}
use Rattle.engines.specs.AtMostTwo.{AtMostTwo}

-- no number is greater than the one that is answered where nothing is refused
unless_most : (v : Verdict) (m : ℕ) → value_or_zero (unless v (Ok m)) ≤ m
unless_most (Ok _) m = omega arith
unless_most (Err k) m = omega arith

pub at_most_two : AtMostTwo
unfolding comparisons_answer comparisons_toward
at_most_two = record {
  each = one_or_two_most;
  together = λ list i e o far. omega (arith, comparisons_most list i e o far);
  answered = λ κs call n x p.
      let list = call.0.now in let back = call.1.0 in let i = call.1.1.0 in
      let e = call.1.1.1.0.eye in let o = call.1.1.1.0.object in let far = call.1.1.1.0.farthest in
      let most = unless_most (sight_verdict (length list) i e o far) (comparisons_toward list back i e o far) in
      omega (arith, ap value_or_zero p, most, comparisons_most (faced back list) (counted back (length list) i) e o far);
}
