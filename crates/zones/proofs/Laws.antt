-- Laws of zones. A station with the bit begins a zone or continues one, and ends it or leaves it open; from this the number of
-- ends follows.
use mathlib.Core.Path.{◌≡◌, refl, sym}
use mathlib.Core.Bool.{Bool, true, false, not, cond, ◌&&◌, and-true, and-false}
use mathlib.Core.List.{List}
use mathlib.Core.Logic.{⊎_elim}
use Prim.Native.Nat.{ℕ, zero, suc, ◌+◌, ◌*◌, ◌/◌, ◌≤◌, ◌<◌}
use borrow.Author.Tests.{le-ltb}
use native.Mathlib.Nat.{zero-div, eq-or-lt_of_le}
use native.Mathlib.Numerals.{add-one}
use native.Mathlib.Omega.{arith}
use lib.Dec.{ltb}
use lib.ListN.{length, length-append, get_or-eq_default}
use Rattle.whole.specs.Placed.{placed, Wrote}
use Rattle.whole.proofs.Placed.{wrote_filled, wrote_length}
use Rattle.terms.specs.Answers.{list_outside, refuse}
use Rattle.terms.specs.Limits.{last_bit}
use Rattle.terms.specs.declared.Refusal.TheVariants.{NoZoneRoom}
use Rattle.std.specs.Prelude.{Ok}
use Rattle.zones.specs.Zones.{has_bit, begins_at, ends_at, only, zone_ends, zone_count, zones_answer, zones_list}

-- ---- counting
-- one for a test that holds
abbrev pub one : Bool → ℕ
one test = cond test 1 0

one_at_most : (h : Bool) → one h ≤ 1
one_at_most true = omega arith
one_at_most false = omega arith

pub only-length : (test : Bool) (i : ℕ) → length (only test i) ≡ one test
only-length true i = refl
only-length false i = refl

-- of a station, the one before it and the one behind it, with the bit or without
split : (g h k : Bool) → one (h && not k) + one (h && k) ≡ one (h && not g) + one (g && h)
split true true true = refl
split true true false = refl
split false true true = refl
split false true false = refl
split true false k = refl
split false false k = refl

apart : (g h : Bool) → 2 * one (h && not g) + one g ≤ 1 + one h
apart true true = omega arith
apart true false = omega arith
apart false true = omega arith
apart false false = omega arith

module _ (marks : List ℕ) (b : ℕ) where
  -- a zone is open at station n: a station before it has begun it, and n continues it
  abbrev pub open_at : ℕ → Bool
  open_at zero = false
  open_at (suc n) = has_bit marks b n && has_bit marks b (suc n)

  -- as many begin at n or are open there as end at n or stay open
  begins_or_open : (n : ℕ) → one (ends_at marks b n) + one (open_at (suc n)) ≡ one (begins_at marks b n) + one (open_at n)
  unfolding ends_at begins_at
  begins_or_open zero = rw and-true at (split false (has_bit marks b 0) (has_bit marks b 1))
  begins_or_open (suc n) =
      rw (add-one (suc n)) (split (has_bit marks b n) (has_bit marks b (suc n)) (has_bit marks b (suc (suc n))))

  zone_ends_more : (n : ℕ) →
      length (zone_ends marks b (suc n)) ≡ length (zone_ends marks b n) + one (begins_at marks b n) + one (ends_at marks b n)
  unfolding zone_ends
  zone_ends_more n = simp (length-append, only-length) (omega arith)

  -- each zone has two ends, and one that is open has one so far
  zone_ends-length : (n : ℕ) → length (zone_ends marks b n) + one (open_at n) ≡ 2 * zone_count marks b n
  unfolding zone_ends zone_count
  zone_ends-length zero = refl
  zone_ends-length (suc n) = omega (arith, zone_ends_more n, begins_or_open n, zone_ends-length n)

  pub not_open : (n : ℕ) → has_bit marks b n ≡ false → open_at n ≡ false
  not_open zero h = refl
  not_open (suc n) h = rw (h, and-false) refl

  pub has_bit_beyond : (i : ℕ) → length marks ≤ i → has_bit marks b i ≡ false
  unfolding has_bit
  has_bit_beyond i h = rw (get_or-eq_default marks 0 {n = i} h, zero-div) refl

  -- of all stations: beyond the last none has the bit, so no zone is open
  pub zone_ends_twice : length (zone_ends marks b (length marks)) ≡ 2 * zone_count marks b (length marks)
  zone_ends_twice =
      let n = length marks in
      let closed = not_open n (has_bit_beyond n (omega arith)) in
      omega (arith, rw closed at (zone_ends-length n))

  zone_ends_mono : (n m : ℕ) → n ≤ m → length (zone_ends marks b n) ≤ length (zone_ends marks b m)
  zone_ends_mono zero zero h = omega arith
  zone_ends_mono (suc n) zero h = absurd (omega arith)
  zone_ends_mono n (suc m) h =
      ⊎_elim
      (λ e. rw e (omega arith))
      (λ s. omega (arith, zone_ends_mono n m (omega arith), zone_ends_more m))
      (eq-or-lt_of_le h)

  -- the ends of the first stations are among those of all
  pub zone_ends_fit : (n : ℕ) → n < length marks →
      length (zone_ends marks b n) + one (begins_at marks b n) + one (ends_at marks b n) ≤ 2 * zone_count marks b (length marks)
  zone_ends_fit n h = omega (arith, zone_ends_more n, zone_ends_mono (suc n) (length marks) (omega arith), zone_ends_twice)

  zones_apart : (n : ℕ) → 2 * zone_count marks b (suc n) ≤ suc n + one (has_bit marks b n)
  unfolding zone_count begins_at
  zones_apart zero = omega (arith, one_at_most (has_bit marks b 0))
  zones_apart (suc n) = omega (arith, zones_apart n, apart (has_bit marks b n) (has_bit marks b (suc n)))

  -- between two zones there is a station without the bit
  pub zones_at_most : (n : ℕ) → zone_count marks b n ≤ (n + 1) / 2
  unfolding zone_count
  zones_at_most zero = omega arith
  zones_at_most (suc n) = omega (arith, zones_apart n, one_at_most (has_bit marks b n))

pub ruleset ends_room = (zone_ends_fit, only-length, wrote_length)

-- ---- the answer of a good bit and list goes by the room
pub zones_by_room : (marks zones : List ℕ) (b count : ℕ) → b ≤ last_bit → list_outside (length marks) ≡ false →
    count ≡ zone_count marks b (length marks) →
    zones_answer marks b zones ≡ refuse (ltb (length zones) (2 * count)) NoZoneRoom (Ok count)
unfolding zones_answer
zones_by_room marks zones b count h l e = simp (le-ltb last_bit b h, l, e)

-- and where there is room, the list is the ends placed from its front
pub zones_list_placed : (marks zones : List ℕ) (b : ℕ) → b ≤ last_bit → list_outside (length marks) ≡ false →
    2 * zone_count marks b (length marks) ≤ length zones →
    zones_list marks b zones ≡ placed (zone_ends marks b (length marks)) 0 zones
unfolding zones_list
zones_list_placed marks zones b h l r =
    let count = zone_count marks b (length marks) in let ends = zone_ends marks b (length marks) in
    let all : Wrote ends 0 (length ends) zones (placed ends 0 zones) = record { behind = omega arith; text = refl } in
    rw (zones_by_room marks zones b count h l refl, le-ltb (length zones) (2 * count) r)
    (sym (rw zone_ends_twice at (wrote_filled all)))
