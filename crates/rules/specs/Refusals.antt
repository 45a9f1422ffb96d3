-- Document 01, numbers of refusal: the table of each call, its rows in the order in which they are looked at. n words are lent. Cited by
-- every answer. Assumes nothing.
use Rattle.std.specs.Prelude.{ℕ, ◌+◌, Bool, true, false, ◌||◌, not, List, [], ◌∷◌, ◌++◌, leb, ltb, eqb, ℤ}
use Rattle.rules.specs.Types.{Order, Lsb0, Msb0, Span, Sign, Signed, Refusal, TooManyWords, IndexTooLarge, OutOfBounds, NoSuchK}
use Rattle.rules.specs.Types.{FieldLength, OrdersDiffer, LengthsDiffer, NotAnInteger, DoesNotFit, NotBelow, Verdict, Ok, Err}
use Rattle.rules.specs.Positions.{in_bounds}
use Rattle.rules.specs.Fields.{is_size, is_integer, fits}

-- the number of a refusal
abbrev pub number : Refusal → ℕ
number TooManyWords = 1
number IndexTooLarge = 2
number OutOfBounds = 3
number NoSuchK = 4
number FieldLength = 5
number OrdersDiffer = 6
number LengthsDiffer = 7
number NotAnInteger = 8
number DoesNotFit = 9
number NotBelow = 10

-- a row of a table: a refusal, and whether its condition holds
pub record Case : Type 0 where
  pub no : Refusal
  pub holds : Bool

infix 70 ◌when◌
abbrev pub ◌when◌ : Refusal → Bool → Case
r when b = record { no = r; holds = b }

-- the first verdict where a condition holds, else the second
abbrev pub or_else : Bool → Verdict → Verdict → Verdict
or_else true a b = a
or_else false a b = b

-- lowest number first: the first row whose condition holds
unfoldable pub verdict : List Case → Verdict
verdict [] = Ok tt
verdict (c ∷ t) = or_else c.holds (Err c.no) (verdict t)

-- 1: more than 65,536 words lent; 2: head is W or more; 3: span not in bounds
unfoldable pub span_cases : ℕ → ℕ → Span → List Case
span_cases W n s =
    TooManyWords when ltb 65536 n ∷ IndexTooLarge when leb W s.head.0 ∷ OutOfBounds when not (in_bounds W n s) ∷ []

-- position and selector. 2: the index is W or more
unfoldable pub index_cases : ℕ → ℕ → List Case
index_cases W i = IndexTooLarge when leb W i ∷ []

-- mask. 2: `from` is W or more; 10: `upto` > W or `from` > `upto`
unfoldable pub mask_cases : ℕ → ℕ → ℕ → List Case
mask_cases W from upto = IndexTooLarge when leb W from ∷ NotBelow when (ltb W upto || ltb upto from) ∷ []

-- split, shortening and shifting. 1 to 3; 10: the place is above the span's length
unfoldable pub split_cases : ℕ → ℕ → Span → ℕ → List Case
split_cases W n s p = span_cases W n s ++ (NotBelow when ltb s.len p ∷ [])

-- single bit. 1 to 3; 10: the index is not below the span's length
unfoldable pub bit_cases : ℕ → ℕ → Span → ℕ → List Case
bit_cases W n s i = span_cases W n s ++ (NotBelow when leb s.len i ∷ [])

-- 4: K is not 8, 16, 32, 64; 5: field length 0 or above K
unfoldable pub field_cases : ℕ → ℕ → List Case
field_cases K len =
    NoSuchK when not (is_size K) ∷ FieldLength when (eqb len 0 || ltb K len) ∷ []

-- 4, 5; 8: value is not a K-bit integer of its sign
unfoldable pub value_cases : ℕ → ℕ → Sign → ℤ → List Case
value_cases K len g v = field_cases K len ++ (NotAnInteger when not (is_integer K g v) ∷ [])

-- 4, 5; 8; 9: value does not fit
unfoldable pub fitting_cases : ℕ → ℕ → Sign → ℤ → List Case
fitting_cases K len g v = value_cases K len g v ++ (DoesNotFit when not (fits len g v) ∷ [])

-- load. 1 to 3; 4, 5
unfoldable pub load_cases : ℕ → ℕ → Span → ℕ → List Case
load_cases W n s K = span_cases W n s ++ field_cases K s.len

-- store. 1 to 3; 4, 5; 8
unfoldable pub store_cases : ℕ → ℕ → Span → ℕ → Sign → ℤ → List Case
store_cases W n s K g v = span_cases W n s ++ value_cases K s.len g v

-- strict store. 1 to 3; 4, 5; 8; 9
unfoldable pub store_strict_cases : ℕ → ℕ → Span → ℕ → Sign → ℤ → List Case
store_strict_cases W n s K g v = span_cases W n s ++ fitting_cases K s.len g v

-- a number as the machine's signed 64 bits. 8: it is none
unfoldable pub machine_cases : ℤ → List Case
machine_cases v = NotAnInteger when not (is_integer 64 Signed v) ∷ []

-- two orders are one
abbrev pub same_order : Order → Order → Bool
same_order Lsb0 Lsb0 = true
same_order Lsb0 Msb0 = false
same_order Msb0 Lsb0 = false
same_order Msb0 Msb0 = true

-- boolean and equal. 1 to 3 of the first span, 1 to 3 of the second; 6: the two spans' orders differ
unfoldable pub pair_cases : ℕ → ℕ → Span → ℕ → Span → List Case
pair_cases W n s m t =
    span_cases W n s ++ (span_cases W m t ++ (OrdersDiffer when not (same_order s.order t.order) ∷ []))

-- copy between and swap. the same; 7: lengths differ
unfoldable pub copy_cases : ℕ → ℕ → Span → ℕ → Span → List Case
copy_cases W n s m t = pair_cases W n s m t ++ (LengthsDiffer when not (eqb s.len t.len) ∷ [])

-- copy inside. 1 to 3; 10: start + count or destination + count above the span's length
unfoldable pub within_cases : ℕ → ℕ → Span → ℕ → ℕ → ℕ → List Case
within_cases W n s from count to =
    span_cases W n s ++ (NotBelow when (ltb s.len (from + count) || ltb s.len (to + count)) ∷ [])
