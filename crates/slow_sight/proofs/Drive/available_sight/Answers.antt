-- `available_sight`: where the inner loop comes to its end the object at `j` is seen, and where it is left it is hidden. At both ways out of
-- the outer loop `sight_by` says that `s` is the available sight. The heights are those that the driver meets, which are as many.
use Rattle.std.proofs.Common.{◌≡◌, Bool, true, false, subst, sym, rules, arith, add-one}
use lib.Dec.{T}
use Rattle.directions.proofs.Laws.{faced-length}
use Rattle.sight.specs.Sight.{seen}
use Rattle.sight.proofs.Reach.{sight_by}
use Rattle.sight.proofs.Seen.{one_more, between_at, between_by}
use Rattle.slow_sight.proofs.Drive.available_sight.Goals as goal

-- a test does not hold whose flag is false
hides : (q : Bool) → T q → q ≡ false → ⊥
hides true t e = cc
hides false t e = t

pub objects-preserved : goal.objects-preserved
unfolding seen
objects-preserved c =
    let l = c.objects.invariant in
    record {
      limit_is = search rules;
      within = omega arith;
      seen_all = one_more l.seen_all (between_by _ _ _ (λ k b r. subst T (sym (c.loop-k.invariant.pass_all k b (omega arith))) tt));
    }

pub returns-then-s-limit : goal.returns-then-s-limit
returns-then-s-limit c =
    let s = c.args in let l = c.objects.invariant in let size = faced-length s.self.now.back s.self.now.heights.now in
    sight_by _ _ _ _ _ record { within = omega arith; all = λ t m r. l.seen_all t m (omega arith); stop = λ m p. omega arith }

pub returns-then-not-clears : goal.returns-then-not-clears
unfolding seen
returns-then-not-clears c =
    let s = c.args in let l = c.objects.invariant in let size = faced-length s.self.now.back s.self.now.heights.now in
    sight_by _ _ _ _ _ record {
      within = omega arith;
      all = λ t m r. l.seen_all t m (omega arith);
      stop = λ m p. hides _ (between_at _ _ _ (rw (← add-one c.objects.s) at p) c.loop-k.k c.loop-k.invariant.from (omega arith)) cc;
    }
