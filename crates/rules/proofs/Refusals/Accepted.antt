-- What an accepted request has: the facts that `Ok` of each table gives to code and proof. Assumes nothing.
use Prim.Native.Nat.{ℕ, ◌+◌, ◌/◌, ◌≤◌, ◌<◌}
use mathlib.Core.Path.{◌≡◌, refl, sym}
use mathlib.Core.Bool.{Bool, true, false, not, ◌||◌, false≢true}
use mathlib.Core.List.{[], ◌∷◌, ◌++◌}
use native.Mathlib.Nat.{mul-add-div_right, div-lt_iff_lt-mul}
use native.Mathlib.Omega.{arith}
use lib.Dec.{leb, ltb, eqb}
use lib.IntN.{ℤ}
use borrow.Author.Tests.{ltb-false, leb-false, eqb-true, eqb-false, not-false}
use Rattle.rules.specs.Types.{Order, Lsb0, Msb0, Span, Sign, NotBelow, NoSuchK, FieldLength, NotAnInteger, DoesNotFit, OrdersDiffer, LengthsDiffer, Ok}
use Rattle.rules.specs.Fields.{is_size, is_integer, fits}
use Rattle.rules.specs.Refusals.{verdict, ◌when◌, span_cases, split_cases, bit_cases, field_cases, value_cases, fitting_cases, load_cases, store_cases, store_strict_cases, same_order, pair_cases, copy_cases, within_cases}
use Rattle.rules.proofs.Refusals.Tables.{Inside, fine_inside, fine_parts, fine_row}

neither : (a b : Bool) → (a || b) ≡ false → (a ≡ false) × (b ≡ false)
neither true b e = absurd (false≢true (sym e))
neither false b e = (refl, e)

-- split, shortening and shifting at p
pub record Place (W n : ℕ) (s : Span) (p : ℕ) : Type 0 where
  pub lies : Inside W n s
  pub upto : p ≤ s.len

pub fine_place : (W n : ℕ) (s : Span) (p : ℕ) → verdict (split_cases W n s p) ≡ Ok tt → Place W n s p
unfolding split_cases
fine_place W n s p e =
    let f = fine_parts (span_cases W n s) (NotBelow when ltb s.len p ∷ []) e in
    record { lies = fine_inside W n s f.0; upto = ltb-false s.len p (fine_row NotBelow (ltb s.len p) f.1) }

-- bit i of a span
pub record Bit (W n : ℕ) (s : Span) (i : ℕ) : Type 0 where
  pub lies : Inside W n s
  pub below : i < s.len
  pub wide : 0 < W
  pub word_in : s.word + (s.head.0 + i) / W < n

pub fine_bit : (W n : ℕ) (s : Span) (i : ℕ) → verdict (bit_cases W n s i) ≡ Ok tt → Bit W n s i
unfolding bit_cases
fine_bit W n s i e =
    let f = fine_parts (span_cases W n s) (NotBelow when leb s.len i ∷ []) e in
    let a = fine_inside W n s f.0 in
    let b : i < s.len = leb-false s.len i (fine_row NotBelow (leb s.len i) f.1) in
    let w : 0 < W = omega arith in
    record {
      lies = a;
      below = b;
      wide = w;
      word_in = rw (← (mul-add-div_right w s.word (s.head.0 + i))) ((div-lt_iff_lt-mul w).1 (omega arith));
    }

-- a field's length and K
pub record Sized (K len : ℕ) : Type 0 where
  pub listed : is_size K ≡ true
  pub size : K ≤ 64
  pub some : 0 < len
  pub fitting : len ≤ K

pub one_of : (K : ℕ) → is_size K ≡ true → K ≤ 64
unfolding is_size
one_of K e = go (eqb K 8) (eqb K 16) (eqb K 32) (eqb K 64) refl refl refl refl e
  where
    go : (a b c d : Bool) → eqb K 8 ≡ a → eqb K 16 ≡ b → eqb K 32 ≡ c → eqb K 64 ≡ d → (a || b || c || d) ≡ true → K ≤ 64
    go true b c d p q r t e = omega (arith, eqb-true K 8 p)
    go false true c d p q r t e = omega (arith, eqb-true K 16 q)
    go false false true d p q r t e = omega (arith, eqb-true K 32 r)
    go false false false true p q r t e = omega (arith, eqb-true K 64 t)
    go false false false false p q r t e = absurd (false≢true e)

pub fine_sized : (K len : ℕ) → verdict (field_cases K len) ≡ Ok tt → Sized K len
unfolding field_cases
fine_sized K len e =
    let k = not (is_size K) in
    let l = eqb len 0 || ltb K len in
    let f = fine_parts (NoSuchK when k ∷ []) (FieldLength when l ∷ []) e in
    let g = neither (eqb len 0) (ltb K len) (fine_row FieldLength l f.1) in
    let h = not-false (is_size K) (fine_row NoSuchK k f.0) in
    record {
      listed = h;
      size = one_of K h;
      some = positive (eqb-false len 0 g.0);
      fitting = ltb-false K len g.1;
    }
  where
    positive : (len ≡ 0 → ⊥) → 0 < len
    positive h = omega arith

-- a value for a field
pub record Valued (K len : ℕ) (g : Sign) (v : ℤ) : Type 0 where
  pub sized : Sized K len
  pub integer : is_integer K g v ≡ true

pub fine_valued : (K len : ℕ) (g : Sign) (v : ℤ) → verdict (value_cases K len g v) ≡ Ok tt → Valued K len g v
unfolding value_cases
fine_valued K len g v e =
    let f = fine_parts (field_cases K len) (NotAnInteger when not (is_integer K g v) ∷ []) e in
    record { sized = fine_sized K len f.0; integer = not-false (is_integer K g v) (fine_row NotAnInteger (not (is_integer K g v)) f.1) }

pub record Fitted (K len : ℕ) (g : Sign) (v : ℤ) : Type 0 where
  pub valued : Valued K len g v
  pub small : fits len g v ≡ true

pub fine_fitted : (K len : ℕ) (g : Sign) (v : ℤ) → verdict (fitting_cases K len g v) ≡ Ok tt → Fitted K len g v
unfolding fitting_cases
fine_fitted K len g v e =
    let f = fine_parts (value_cases K len g v) (DoesNotFit when not (fits len g v) ∷ []) e in
    record { valued = fine_valued K len g v f.0; small = not-false (fits len g v) (fine_row DoesNotFit (not (fits len g v)) f.1) }

-- load, store, strict store
pub record Load (W n : ℕ) (s : Span) (K : ℕ) : Type 0 where
  pub lies : Inside W n s
  pub sized : Sized K s.len

pub fine_load : (W n : ℕ) (s : Span) (K : ℕ) → verdict (load_cases W n s K) ≡ Ok tt → Load W n s K
unfolding load_cases
fine_load W n s K e =
    let f = fine_parts (span_cases W n s) (field_cases K s.len) e in
    record { lies = fine_inside W n s f.0; sized = fine_sized K s.len f.1 }

pub record Store (W n : ℕ) (s : Span) (K : ℕ) (g : Sign) (v : ℤ) : Type 0 where
  pub lies : Inside W n s
  pub valued : Valued K s.len g v

pub fine_store : (W n : ℕ) (s : Span) (K : ℕ) (g : Sign) (v : ℤ) → verdict (store_cases W n s K g v) ≡ Ok tt → Store W n s K g v
unfolding store_cases
fine_store W n s K g v e =
    let f = fine_parts (span_cases W n s) (value_cases K s.len g v) e in
    record { lies = fine_inside W n s f.0; valued = fine_valued K s.len g v f.1 }

pub record Strict (W n : ℕ) (s : Span) (K : ℕ) (g : Sign) (v : ℤ) : Type 0 where
  pub lies : Inside W n s
  pub fitted : Fitted K s.len g v

pub fine_strict : (W n : ℕ) (s : Span) (K : ℕ) (g : Sign) (v : ℤ) → verdict (store_strict_cases W n s K g v) ≡ Ok tt → Strict W n s K g v
unfolding store_strict_cases
fine_strict W n s K g v e =
    let f = fine_parts (span_cases W n s) (fitting_cases K s.len g v) e in
    record { lies = fine_inside W n s f.0; fitted = fine_fitted K s.len g v f.1 }

-- two spans
pub record Pair (W n : ℕ) (s : Span) (m : ℕ) (t : Span) : Type 0 where
  pub left : Inside W n s
  pub right : Inside W m t
  pub one_order : s.order ≡ t.order

same_order_lem : (o p : Order) → same_order o p ≡ true → o ≡ p
same_order_lem Lsb0 Lsb0 e = refl
same_order_lem Lsb0 Msb0 e = absurd (false≢true e)
same_order_lem Msb0 Lsb0 e = absurd (false≢true e)
same_order_lem Msb0 Msb0 e = refl

pub fine_pair : (W n : ℕ) (s : Span) (m : ℕ) (t : Span) → verdict (pair_cases W n s m t) ≡ Ok tt → Pair W n s m t
unfolding pair_cases
fine_pair W n s m t e =
    let o = not (same_order s.order t.order) in
    let f = fine_parts (span_cases W n s) (span_cases W m t ++ (OrdersDiffer when o ∷ [])) e in
    let g = fine_parts (span_cases W m t) (OrdersDiffer when o ∷ []) f.1 in
    record {
      left = fine_inside W n s f.0;
      right = fine_inside W m t g.0;
      one_order = same_order_lem s.order t.order (not-false (same_order s.order t.order) (fine_row OrdersDiffer o g.1));
    }

pub record Copy (W n : ℕ) (s : Span) (m : ℕ) (t : Span) : Type 0 where
  pub pair : Pair W n s m t
  pub one_length : s.len ≡ t.len

pub fine_copy : (W n : ℕ) (s : Span) (m : ℕ) (t : Span) → verdict (copy_cases W n s m t) ≡ Ok tt → Copy W n s m t
unfolding copy_cases
fine_copy W n s m t e =
    let l = not (eqb s.len t.len) in
    let f = fine_parts (pair_cases W n s m t) (LengthsDiffer when l ∷ []) e in
    record {
      pair = fine_pair W n s m t f.0;
      one_length = eqb-true s.len t.len (not-false (eqb s.len t.len) (fine_row LengthsDiffer l f.1));
    }

-- copy inside
pub record Move (W n : ℕ) (s : Span) (from count to : ℕ) : Type 0 where
  pub lies : Inside W n s
  pub source : from + count ≤ s.len
  pub target : to + count ≤ s.len

pub fine_move : (W n : ℕ) (s : Span) (from count to : ℕ) → verdict (within_cases W n s from count to) ≡ Ok tt → Move W n s from count to
unfolding within_cases
fine_move W n s from count to e =
    let b = ltb s.len (from + count) || ltb s.len (to + count) in
    let f = fine_parts (span_cases W n s) (NotBelow when b ∷ []) e in
    let g = neither (ltb s.len (from + count)) (ltb s.len (to + count)) (fine_row NotBelow b f.1) in
    record {
      lies = fine_inside W n s f.0;
      source = ltb-false s.len (from + count) g.0;
      target = ltb-false s.len (to + count) g.1;
    }
