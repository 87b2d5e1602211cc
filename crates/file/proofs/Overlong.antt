-- A file longer than any road file is refused, by its header alone. So the programs need to read no more of a file
-- than one byte beyond the longest: what is read of that front is what is read of the whole.
use mathlib.Core.Path.{◌≡◌, refl, sym, ap, ◌∙◌}
use mathlib.Core.Bool.{Bool, true, false, cond, not, ◌||◌}
use mathlib.Core.List.{List}
use Prim.Native.Nat.{ℕ, ◌+◌, ◌≤◌, ◌<◌}
use native.Mathlib.Omega.{arith}
use borrow.Author.Tests.{le-ltb, ltb-false, ne_eqb}
use lib.Dec.{ltb}
use lib.ListN.{length, take}
use lib.Seq.{get_or-take, length-take-le}
use Rattle.terms.specs.Answers.{outside, refuse, unless, Verdict, accepted}
use Rattle.terms.specs.Limits.{first_version, second_version, greatest_curve_count}
use Rattle.terms.specs.declared.Refusal.{Refusal}
use Rattle.terms.specs.declared.Refusal.TheVariants.{WrongLetters, WrongVersion, TooManyCurves, WrongTotal}
use Rattle.std.specs.Prelude.{Err}
use Rattle.file.specs.File.{byte_at, number_at, station_bytes, file_length, version_in, curve_count}
use Rattle.file.specs.Reading.{differs, header_verdict, read_verdict_up_to, enough_bytes, EnoughToRead}
use Rattle.file.proofs.Sound.{read_by}
use Rattle.file.proofs.Stations.{station_size, second_station, longest_file}

-- its refusal: 2, 3, 4, else 5
overlong_fault : List ℕ → Refusal
overlong_fault s =
    cond (differs s 0 || differs s 1 || differs s 2) WrongLetters
    (cond (outside first_version second_version (version_in s)) WrongVersion
    (cond (ltb greatest_curve_count (curve_count s)) TooManyCurves WrongTotal))

-- the table of 2 to 5, where 5 applies unless 4 does
else_total : (a b c d : Bool) (rest : Verdict) → (c ≡ false → d ≡ true) →
    unless (refuse a WrongLetters (refuse b WrongVersion (refuse c TooManyCurves (refuse d WrongTotal accepted)))) rest
    ≡ Err (cond a WrongLetters (cond b WrongVersion (cond c TooManyCurves WrongTotal)))
else_total true b c d rest e = refl
else_total false true c d rest e = refl
else_total false false true d rest e = refl
else_total false false false d rest e = rw (e refl)

overlong : (most : ℕ) (s : List ℕ) → enough_bytes ≤ length s → read_verdict_up_to most s ≡ Err (overlong_fault s)
unfolding read_verdict_up_to header_verdict overlong_fault
overlong most s l =
    rw (
      le-ltb (length s) (file_length first_version 0) (omega (arith, longest_file first_version 0 (omega arith))),
      le-ltb (length s) (file_length (version_in s) 0) (omega (arith, longest_file (version_in s) 0 (omega arith))),
    )
    (else_total (differs s 0 || differs s 1 || differs s 2) (outside first_version second_version (version_in s)) (ltb greatest_curve_count (curve_count s)) _ _
    (λ e.
    let few = ltb-false greatest_curve_count (curve_count s) e in
    ap not (ne_eqb (length s) (file_length (version_in s) (curve_count s)) (λ same. omega (arith, longest_file (version_in s) (curve_count s) few)))))

module _ (s : List ℕ) (l : enough_bytes ≤ length s) where
  abbrev front : List ℕ
  front = take enough_bytes s

  same : (k : ℕ) → k < enough_bytes → byte_at front k ≡ byte_at s k
  same k m = get_or-take enough_bytes s k 0 m

  same_version : version_in front ≡ version_in s
  unfolding number_at
  same_version = rw (same 3 (omega (arith, second_station)), same 4 (omega (arith, second_station)))

  read_verdict_front : (most : ℕ) → read_verdict_up_to most front ≡ read_verdict_up_to most s
  unfolding overlong_fault
  read_verdict_front most =
      overlong most front (omega (arith, length-take-le enough_bytes s l))
      ∙ rw (same_version, same 0 (omega arith), same 1 (omega arith), same 2 (omega arith), same (station_bytes (version_in s) + 13) (omega (arith, second_station, (station_size (version_in s)).1)))
      (sym (overlong most s l))

pub read_front : EnoughToRead enough_bytes
read_front most s l =
    let e = overlong most s l in
    read_by most (take enough_bytes s) _ (read_verdict_front s l most ∙ e) ∙ sym (read_by most s _ e)
