-- `convert` meets its contract where the file is accepted and can be converted: it answers and leaves what writing the converted road does.
use Rattle.std.proofs.Common.{ℕ, ◌≡◌, ◌∙◌, sym, false, List}
use Rattle.terms.specs.Answers.{accepted}
use Rattle.terms.specs.Limits.{greatest_long_road}
use Rattle.road.specs.declared.Road.{Road}
use Rattle.file.specs.File.{road_in}
use Rattle.file.specs.Reading.{read_verdict}
use Rattle.file.proofs.Sound.{verdict_read, road_read}
use Rattle.conversion.specs.Conversion.{too_long_for, other_version, in_version, converted, convert_verdict, convert_answer, convert_list}
use Rattle.conversion.proofs.convert.Goals as goal

module _ (file : List ℕ) (r : Road) (wanted : ℕ) (e : read_verdict file ≡ accepted) (same : r ≡ road_in file) (w : wanted ≡ other_version r.version) where
  can : too_long_for wanted r ≡ false → convert_verdict file ≡ accepted
  unfolding convert_verdict
  can f = rw (e, ← same, ← w, f)

  made : (m : Road) → m ≡ in_version wanted r → m ≡ converted (road_in file)
  made m p = rw (p, w, same)

pub returns : goal.returns
unfolding convert_answer convert_list
returns c =
    let file = c.args.file.now in
    let e = sym (verdict_read greatest_long_road file _ c.read-verdict.ensures) ∙ c.in_ok-verdict.was in
    let same = road_read greatest_long_road file _ c.read-verdict.ensures e in
    let wanted = c.other_version-wanted.ensures in
    let yes = can file _ _ e same wanted (sym c.too_long_for.ensures ∙ c.if-too_long_for.false) in
    let m = made file _ _ e same wanted _ c.in_version.ensures in
    record { answer = rw (yes, ← m) c.write.ensures.answer; list = rw (yes, ← m) c.write.ensures.list }
