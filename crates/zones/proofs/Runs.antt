-- The listed ends are those of all longest runs, ascending. The stations are taken apart into those without the bit and the
-- zones; after n stations the last zone may still be open (`State`), and beyond the last station none is.
use mathlib.Core.Path.{◌≡◌, refl, sym}
use mathlib.Core.Bool.{Bool, true, false, not, ◌&&◌, and-true}
use mathlib.Core.List.{List, [], ◌∷◌, ◌++◌, append_assoc, append-nil}
use mathlib.Core.Logic.{⊎_elim}
use Prim.Native.Nat.{ℕ, zero, suc, ◌≤◌, ◌<◌}
use native.Mathlib.Nat.{eq-or-lt_of_le}
use native.Mathlib.Numerals.{add-one}
use native.Mathlib.Omega.{arith}
use lib.ListN.{length}
use Rattle.zones.specs.Zones.{has_bit, begins_at, ends_at, only, zone_ends}
use Rattle.zones.proofs.Laws.{open_at, not_open, has_bit_beyond}

not_both : (x : Bool) → x ≡ true → x ≡ false → ⊥
not_both x p q = let z : ◌≡◌ {A = ℕ} 0 1 = cc in omega arith

unless_open : (g h : Bool) → h && not g ≡ h && not (g && h)
unless_open true true = refl
unless_open true false = refl
unless_open false h = refl

module _ (marks : List ℕ) (b : ℕ) where
  -- the stations from `first` up to n, which is not one of them, have the bit, and a zone begins at `first`
  pub record Row (first n : ℕ) : Type 0 where
    pub some : first < n
    pub begins : begins_at marks b first ≡ true
    pub each : (i : ℕ) → first ≤ i → i < n → has_bit marks b i ≡ true

  -- the first n stations in order: those without the bit, and longest runs, whose first and last stations are listed
  pub data Parted : ℕ → List ℕ → Type 0 where
    none : Parted 0 []
    without : {n : ℕ} {ends : List ℕ} → Parted n ends → has_bit marks b n ≡ false → Parted (suc n) ends
    zone : {first last : ℕ} {ends : List ℕ} → Parted first ends → Row first (suc last) → ends_at marks b last ≡ true →
        Parted (suc last) (ends ++ (first ∷ last ∷ []))

  -- after n stations: all zones so far have ended, or the last one goes on at n
  data State (n : ℕ) (ends : List ℕ) : Type 0 where
    between : Parted n ends → open_at marks b n ≡ false → State n ends
    within : {first : ℕ} {before : List ℕ} → Parted first before → Row first n → open_at marks b n ≡ true →
        ends ≡ before ++ (first ∷ []) → State n ends

  row_one : (n : ℕ) → begins_at marks b n ≡ true → has_bit marks b n ≡ true → Row n (suc n)
  row_one n p h =
      record { some = omega arith; begins = p; each = λ i l r. let e : i ≡ n = omega arith in rw e h }

  row_more : {first n : ℕ} → Row first n → has_bit marks b n ≡ true → Row first (suc n)
  row_more {first} {n} r h = record {
    some = omega arith;
    begins = r.begins;
    each = λ i l m. ⊎_elim (λ e. rw e h) (λ s. r.each i l s) (eq-or-lt_of_le {n = i} {m = n} (omega arith));
  }

  begins_unless_open : (n : ℕ) → begins_at marks b n ≡ has_bit marks b n && not (open_at marks b n)
  unfolding begins_at
  begins_unless_open zero = sym (and-true _)
  begins_unless_open (suc n) = unless_open (has_bit marks b n) (has_bit marks b (suc n))

  ends_next : (n : ℕ) → ends_at marks b n ≡ has_bit marks b n && not (has_bit marks b (suc n))
  unfolding ends_at
  ends_next n = rw add-one refl

  -- what the list of ends grows by at station n
  grown : (n : ℕ) (h k o : Bool) → has_bit marks b n ≡ h → has_bit marks b (suc n) ≡ k → open_at marks b n ≡ o →
      zone_ends marks b (suc n) ≡ zone_ends marks b n ++ (only (h && not o) n ++ only (h && not k) n)
  unfolding zone_ends
  grown n h k o p q r = rw (begins_unless_open n, ends_next n, p, q, r) refl

  step : (n : ℕ) (h k : Bool) → has_bit marks b n ≡ h → has_bit marks b (suc n) ≡ k → State n (zone_ends marks b n) →
      State (suc n) (zone_ends marks b (suc n))
  step n false k p q (between d o) =
      rw (grown n false k false p q o, append-nil (zone_ends marks b n)) (between (without d p) (rw p refl))
  step n true true p q (between d o) =
      rw (grown n true true false p q o)
      (within d (row_one n (rw (begins_unless_open n, p, o) refl) p) (rw (p, q) refl) refl)
  step n true false p q (between d o) =
      rw (grown n true false false p q o)
      (between (zone d (row_one n (rw (begins_unless_open n, p, o) refl) p) (rw (ends_next n, p, q) refl)) (rw (p, q) refl))
  step n false k p q (within d r o e) = absurd (not_both (open_at marks b n) o (not_open marks b n p))
  step n true true p q (within d r o e) =
      rw (grown n true true true p q o, append-nil (zone_ends marks b n)) (within d (row_more r p) (rw (p, q) refl) e)
  step n true false p q (within {first} {before} d r o e) =
      rw (grown n true false true p q o, e, append_assoc)
      (between (zone d (row_more r p) (rw (ends_next n, p, q) refl)) (rw (p, q) refl))

  state : (n : ℕ) → State n (zone_ends marks b n)
  unfolding zone_ends
  state zero = between none refl
  state (suc n) = step n (has_bit marks b n) (has_bit marks b (suc n)) refl refl (state n)

  closed : (n : ℕ) {ends : List ℕ} → open_at marks b n ≡ false → State n ends → Parted n ends
  closed n c (between d o) = d
  closed n c (within d r o e) = absurd (not_both (open_at marks b n) o c)

  -- beyond the last station no zone is open
  pub zone_ends_parted : Parted (length marks) (zone_ends marks b (length marks))
  zone_ends_parted =
      let n = length marks in
      closed n (not_open marks b n (has_bit_beyond marks b n (omega arith))) (state n)
