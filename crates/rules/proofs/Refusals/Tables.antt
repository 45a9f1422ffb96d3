-- What a verdict says: tables one after another, and what `Ok` of a span's table means. Assumes nothing.
use Prim.Native.Nat.{ℕ, ◌+◌, ◌*◌, ◌≤◌, ◌<◌}
use mathlib.Core.Path.{◌≡◌, refl, sym, ap, ◌∙◌}
use mathlib.Core.Bool.{Bool, true, false, not, or-true}
use mathlib.Core.List.{List, [], ◌∷◌, ◌++◌, map}
use native.Mathlib.Omega.{arith}
use borrow.Author.Tests.{ltb-false, leb-false, leb-true, not-false, lt-ltb, le-ltb, lt-leb, le-leb, eq-eqb, ne_eqb}
use lib.Dec.{eqb}
use Rattle.rules.specs.Types.{Order, Span, Refusal, TooManyWords, IndexTooLarge, OutOfBounds, NoSuchK, FieldLength, OrdersDiffer, LengthsDiffer, Verdict, Ok, Err, Lsb0, Msb0, Unsigned, Signed, NotAnInteger, DoesNotFit, NotBelow}
use Rattle.rules.specs.Positions.{in_bounds}
use Rattle.rules.specs.Fields.{is_size, is_integer, fits}
use Rattle.rules.specs.Refusals.{Case, ◌when◌, or_else, verdict, span_cases, field_cases, mask_cases, value_cases, fitting_cases, store_strict_cases, pair_cases, copy_cases, within_cases}
use lib.IntN.{pos, negsuc}
use Rattle.rules.specs.Samples.{at_head}

-- ---- the order of refusals, by requests that each break several rules: the lowest number first, and with two spans 1 to 3 of the first, 1 to 3 of
-- the second, then the rest

-- spans of one byte or more: 8 bits, 9 bits, an index of 8
abbrev pub fits_in : Order → Span
fits_in o = at_head o 0 8

abbrev pub too_long : Order → Span
too_long o = at_head o 0 9

abbrev pub no_index : Order → Span
no_index o = at_head o 8 9

-- two spans (copy between and swap; boolean and equal), copy inside, a field that is strictly stored
pub in_order : List Verdict
in_order = map verdict (
    copy_cases 8 65537 (no_index Lsb0) 65537 (no_index Msb0)
    ∷ copy_cases 8 1 (no_index Lsb0) 65537 (no_index Msb0)
    ∷ copy_cases 8 1 (too_long Lsb0) 65537 (no_index Msb0)
    ∷ copy_cases 8 1 (fits_in Lsb0) 65537 (no_index Msb0)
    ∷ copy_cases 8 1 (fits_in Lsb0) 1 (no_index Msb0)
    ∷ copy_cases 8 1 (fits_in Lsb0) 1 (too_long Msb0)
    ∷ copy_cases 8 1 (fits_in Lsb0) 2 (too_long Msb0)
    ∷ copy_cases 8 1 (fits_in Lsb0) 2 (too_long Lsb0)
    ∷ copy_cases 8 1 (fits_in Lsb0) 1 (fits_in Lsb0)
    ∷ pair_cases 8 1 (too_long Lsb0) 65537 (no_index Msb0)
    ∷ pair_cases 8 1 (fits_in Lsb0) 1 (too_long Msb0)
    ∷ pair_cases 8 1 (fits_in Lsb0) 2 (too_long Msb0)
    ∷ pair_cases 8 1 (fits_in Lsb0) 2 (too_long Lsb0)
    ∷ within_cases 8 65537 (no_index Lsb0) 1 9 1
    ∷ within_cases 8 1 (no_index Lsb0) 1 9 1
    ∷ within_cases 8 1 (too_long Lsb0) 1 9 1
    ∷ within_cases 8 1 (fits_in Lsb0) 1 8 0
    ∷ within_cases 8 1 (fits_in Lsb0) 0 8 1
    ∷ within_cases 8 1 (fits_in Lsb0) 0xffffffffffffffff 1 0
    ∷ within_cases 8 1 (fits_in Lsb0) 1 7 0
    ∷ store_strict_cases 8 65537 (no_index Lsb0) 7 Unsigned (pos 512)
    ∷ store_strict_cases 8 1 (no_index Lsb0) 7 Unsigned (pos 512)
    ∷ store_strict_cases 8 1 (too_long Lsb0) 7 Unsigned (pos 512)
    ∷ store_strict_cases 8 2 (too_long Lsb0) 7 Unsigned (pos 512)
    ∷ store_strict_cases 8 2 (too_long Lsb0) 8 Unsigned (pos 512)
    ∷ store_strict_cases 8 2 (fits_in Lsb0) 8 Unsigned (pos 512)
    ∷ store_strict_cases 8 2 (fits_in Lsb0) 16 Unsigned (pos 512)
    ∷ store_strict_cases 8 2 (too_long Lsb0) 16 Unsigned (pos 511)
    ∷ []
    )

pub refused_in_order :
    in_order
    ≡ Err TooManyWords ∷ Err IndexTooLarge ∷ Err OutOfBounds ∷ Err TooManyWords ∷ Err IndexTooLarge ∷ Err OutOfBounds
    ∷ Err OrdersDiffer ∷ Err LengthsDiffer ∷ Ok tt
    ∷ Err OutOfBounds ∷ Err OutOfBounds ∷ Err OrdersDiffer ∷ Ok tt
    ∷ Err TooManyWords ∷ Err IndexTooLarge ∷ Err OutOfBounds ∷ Err NotBelow ∷ Err NotBelow ∷ Err NotBelow ∷ Ok tt
    ∷ Err TooManyWords ∷ Err IndexTooLarge ∷ Err OutOfBounds ∷ Err NoSuchK ∷ Err FieldLength ∷ Err NotAnInteger ∷ Err DoesNotFit
    ∷ Ok tt ∷ []
unfolding in_order verdict span_cases field_cases value_cases fitting_cases store_strict_cases pair_cases copy_cases within_cases in_bounds is_size is_integer fits
refused_in_order = refl

-- ---- the limits

-- 65,536 words are accepted, 65,537 are not; a head of 7 is, 8 is not; the last bit is in bounds, one more is not
spans :
    verdict (span_cases 8 65536 (at_head Lsb0 0 8)) ∷ verdict (span_cases 8 65537 (at_head Lsb0 0 8)) ∷ verdict (span_cases 8 1 (at_head Lsb0 7 1))
    ∷ verdict (span_cases 8 2 (at_head Lsb0 8 1)) ∷ verdict (span_cases 8 1 (at_head Lsb0 7 2)) ∷ []
    ≡ Ok tt ∷ Err TooManyWords ∷ Ok tt ∷ Err IndexTooLarge ∷ Err OutOfBounds ∷ []
unfolding verdict span_cases in_bounds
spans = refl

-- a mask from W or more is refused 2, whatever its end; an end past W, and one before its beginning, 10
mask_refusals :
    verdict (mask_cases 8 8 8) ∷ verdict (mask_cases 8 8 9) ∷ verdict (mask_cases 8 7 8) ∷ verdict (mask_cases 8 7 9) ∷ verdict (mask_cases 8 5 2) ∷ []
    ≡ Err IndexTooLarge ∷ Err IndexTooLarge ∷ Ok tt ∷ Err NotBelow ∷ Err NotBelow ∷ []
unfolding verdict mask_cases
mask_refusals = refl

-- K = 8 takes 1 to 8 bits; K = 7 is none
field_refusals :
    verdict (field_cases 8 8) ∷ verdict (field_cases 8 9) ∷ verdict (field_cases 8 0) ∷ verdict (field_cases 7 0) ∷ []
    ≡ Ok tt ∷ Err FieldLength ∷ Err FieldLength ∷ Err NoSuchK ∷ []
unfolding verdict field_cases is_size
field_refusals = refl

-- 255 fits in 8 bits; 256 with K = 16 gives 9, with K = 8 gives 8; -127 fits, -128 does not
value_refusals :
    verdict (fitting_cases 8 8 Unsigned (pos 255)) ∷ verdict (fitting_cases 16 8 Unsigned (pos 256)) ∷ verdict (fitting_cases 8 8 Unsigned (pos 256))
    ∷ verdict (fitting_cases 8 8 Signed (negsuc 126)) ∷ verdict (fitting_cases 8 8 Signed (negsuc 127)) ∷ []
    ≡ Ok tt ∷ Err DoesNotFit ∷ Err NotAnInteger ∷ Ok tt ∷ Err DoesNotFit ∷ []
unfolding verdict fitting_cases value_cases field_cases is_size is_integer fits
value_refusals = refl

abbrev pub and_then : Verdict → Verdict → Verdict
and_then (Ok _) v = v
and_then (Err r) v = Err r

or_then : (b : Bool) (x : Refusal) (v w : Verdict) → or_else b (Err x) (and_then v w) ≡ and_then (or_else b (Err x) v) w
or_then true x v w = refl
or_then false x v w = refl

pub verdict_append : (a b : List Case) → verdict (a ++ b) ≡ and_then (verdict a) (verdict b)
unfolding verdict
verdict_append [] b = refl
verdict_append (r ∷ a) b = ap (or_else r.holds (Err r.no)) (verdict_append a b) ∙ or_then r.holds r.no (verdict a) (verdict b)

-- a verdict on the first rows is the verdict, or the rest decides
pub stops : (a b : List Case) {r : Refusal} → verdict a ≡ Err r → verdict (a ++ b) ≡ Err r
stops a b e = verdict_append a b ∙ ap (λ (v : Verdict). and_then v (verdict b)) e

pub goes : (a b : List Case) → verdict a ≡ Ok tt → verdict (a ++ b) ≡ verdict b
goes a b e = verdict_append a b ∙ ap (λ (v : Verdict). and_then v (verdict b)) e

-- no row's condition holds
or_fine : (b : Bool) (x : Refusal) (v : Verdict) → or_else b (Err x) v ≡ Ok tt → (b ≡ false) × (v ≡ Ok tt)
or_fine true x v e = let z : ◌≡◌ {A = ℕ} 0 1 = cc in absurd (omega arith)
or_fine false x v e = (refl, e)

then_fine : (v w : Verdict) → and_then v w ≡ Ok tt → (v ≡ Ok tt) × (w ≡ Ok tt)
then_fine (Ok _) w e = (refl, e)
then_fine (Err r) w e = let z : ◌≡◌ {A = ℕ} 0 1 = cc in absurd (omega arith)

pub fine_parts : (a b : List Case) → verdict (a ++ b) ≡ Ok tt → (verdict a ≡ Ok tt) × (verdict b ≡ Ok tt)
fine_parts a b e = then_fine (verdict a) (verdict b) (sym (verdict_append a b) ∙ e)

pub fine_row : (r : Refusal) (b : Bool) → verdict (r when b ∷ []) ≡ Ok tt → b ≡ false
unfolding verdict
fine_row r b e = (or_fine b r (Ok tt) e).0

-- a last row, after rows that are fine
module _ (a : List Case) (r : Refusal) (b : Bool) (e : verdict a ≡ Ok tt) where
  pub last_holds : b ≡ true → verdict (a ++ (r when b ∷ [])) ≡ Err r
  unfolding verdict
  last_holds h = goes a (r when b ∷ []) e ∙ rw h

  pub last_clear : b ≡ false → verdict (a ++ (r when b ∷ [])) ≡ Ok tt
  unfolding verdict
  last_clear h = goes a (r when b ∷ []) e ∙ rw h

-- a span that no row of 1 to 3 refuses
pub record Inside (W n : ℕ) (s : Span) : Type 0 where
  pub few : n ≤ 65536
  pub starts : s.head.0 < W
  pub ends : s.word * W + s.head.0 + s.len ≤ n * W

pub fine_inside : (W n : ℕ) (s : Span) → verdict (span_cases W n s) ≡ Ok tt → Inside W n s
unfolding verdict span_cases in_bounds
fine_inside W n s e =
    let a = or_fine _ _ _ e in
    let b = or_fine _ _ _ a.1 in
    let d = or_fine _ _ _ b.1 in
    record { few = ltb-false _ _ a.0; starts = leb-false _ _ b.0; ends = leb-true _ _ (not-false _ d.0) }

-- and the table by the numbers, as code that tests in this order has them
module _ (W n : ℕ) (s : Span) where
  pub refused_1 : 65536 < n → verdict (span_cases W n s) ≡ Err TooManyWords
  unfolding verdict span_cases
  refused_1 a = rw (lt-ltb 65536 n a)

  pub refused_2 : n ≤ 65536 → W ≤ s.head.0 → verdict (span_cases W n s) ≡ Err IndexTooLarge
  unfolding verdict span_cases
  refused_2 a b = rw (le-ltb 65536 n a, le-leb W s.head.0 b)

  pub refused_3 : n ≤ 65536 → s.head.0 < W → not (in_bounds W n s) ≡ true → verdict (span_cases W n s) ≡ Err OutOfBounds
  unfolding verdict span_cases
  refused_3 a b c = rw (le-ltb 65536 n a, lt-leb W s.head.0 b, c)

  pub none_refused : n ≤ 65536 → s.head.0 < W → not (in_bounds W n s) ≡ false → verdict (span_cases W n s) ≡ Ok tt
  unfolding verdict span_cases
  none_refused a b c = rw (le-ltb 65536 n a, lt-leb W s.head.0 b, c)

-- the same of a field's table
module _ (K len : ℕ) where
  pub no_such_K : is_size K ≡ false → verdict (field_cases K len) ≡ Err NoSuchK
  unfolding verdict field_cases
  no_such_K a = rw a

  pub empty_field : is_size K ≡ true → len ≡ 0 → verdict (field_cases K len) ≡ Err FieldLength
  unfolding verdict field_cases
  empty_field a b = rw (a, eq-eqb len 0 b)

  pub long_field : is_size K ≡ true → K < len → verdict (field_cases K len) ≡ Err FieldLength
  unfolding verdict field_cases
  long_field a b = rw (a, lt-ltb K len b, or-true (eqb len 0))

  pub field_fine : is_size K ≡ true → (len ≡ 0 → ⊥) → len ≤ K → verdict (field_cases K len) ≡ Ok tt
  unfolding verdict field_cases
  field_fine a b c = rw (a, ne_eqb len 0 b, le-ltb K len c)
