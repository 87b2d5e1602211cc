-- What is written one behind the other is its join (`wrote_join`): at a station the ends grow where a zone begins, and where one ends.
use Rattle.std.proofs.Common.{◌≡◌, ℕ, ◌+◌, Bool, true, false, List, ◌++◌, append_assoc, append-nil, add-one}
use Rattle.std.proofs.Math.ListN.{set}
use Rattle.whole.specs.Placed.{placed, Wrote}
use Rattle.whole.proofs.Placed.{wrote_join}
use Rattle.zones.specs.Zones.{only, zone_ends}
use Rattle.zones.proofs.Layer.write.Goals as goal
use Rattle.zones.proofs.Layer.write.Goals.{then-begins_at, else-begins_at, then-ends_at, else-ends_at}

module _ {ends xs ys zs : List ℕ} {at next : ℕ} (test : Bool) (n : ℕ) (so_far : Wrote ends 0 at xs ys) where
  stored : test ≡ true → next ≡ at + 1 → zs ≡ set ys at n → Wrote (ends ++ only test n) 0 next xs zs
  unfolding placed
  stored t a l = rw t (wrote_join so_far (record { behind = a; text = l }))

  passed : test ≡ false → next ≡ at → zs ≡ ys → Wrote (ends ++ only test n) 0 next xs zs
  passed t a l = rw (t, append-nil, a, l) so_far

pub loop-i-preserved : goal.loop-i-preserved
unfolding zone_ends
loop-i-preserved c =
    let ends = zone_ends c.args.self.marks.now c.args.self.bit c.loop-i.i in
    let first : Wrote (ends ++ only c.begins_at.result c.loop-i.i) 0 c.if-begins_at.at c.args.list.now c.if-begins_at.list =
    elim c.if-begins_at.branch [
      | then-begins_at w ↦ stored _ _ c.loop-i.invariant w.if-begins_at.true w.at-is w.list-is
      | else-begins_at w ↦ passed _ _ c.loop-i.invariant w.if-begins_at.false w.at-is w.list-is
    ] in
    let last : Wrote (ends ++ only c.begins_at.result c.loop-i.i ++ only c.ends_at.result c.loop-i.i) 0 c.if-ends_at.at c.args.list.now c.if-ends_at.list =
    elim c.if-ends_at.branch [
      | then-ends_at w ↦ stored _ _ first w.if-ends_at.true w.at-is w.list-is
      | else-ends_at w ↦ passed _ _ first w.if-ends_at.false w.at-is w.list-is
    ] in
    rw (add-one, ← c.begins_at.ensures, ← c.ends_at.ensures, ← append_assoc) last
