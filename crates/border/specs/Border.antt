-- The border to C: which order, sign and so on a code names, and how an answer leaves: as a number, and as what stands behind a pointer.
-- Cited by the promise of every exported call. Assumes nothing.
use Rattle.std.specs.Prelude.{ℕ, zero, suc, ◌≡◌, Bool, true, false, ◌||◌, not, List, [], ◌∷◌, get_or, cond, eqb, ltb}
use Rattle.rules.specs.declared.Width.{Width}
use Rattle.rules.specs.declared.Width.TheVariants.{W8, W64}
use Rattle.rules.specs.declared.Order.{Order}
use Rattle.rules.specs.declared.Order.TheVariants.{Lsb0, Msb0}
use Rattle.rules.specs.declared.Significance.{Significance}
use Rattle.rules.specs.declared.Significance.TheVariants.{Le, Be}
use Rattle.rules.specs.declared.Sign.{Sign}
use Rattle.rules.specs.declared.Sign.TheVariants.{Unsigned, Signed}
use Rattle.rules.specs.declared.Number.{Number}
use Rattle.rules.specs.declared.Number.TheVariants.{Up, Down}
use Rattle.rules.specs.declared.Operation.{Operation}
use Rattle.rules.specs.declared.Operation.TheVariants.{And, Or, Xor}
use Rattle.rules.specs.declared.Span.{Span}
use Rattle.rules.specs.Positions.{span}
use Rattle.rules.specs.Fields.{bits_of}
use Rattle.rules.specs.Calls.{Answer, refused, done, a_position, a_selector, a_mask, a_span, two_spans, a_bit, a_number, says_yes, says_no}
use Rattle.rules.specs.Calls.{found_at, absent, Call, answer, after, swap_answer, swap_left, swap_right}

-- an order: 0 Lsb0, 1 Msb0
abbrev pub order_of : ℕ → Order
order_of zero = Lsb0
order_of (suc c) = Msb0

-- a significance: 0 le, 1 be
abbrev pub significance_of : ℕ → Significance
significance_of zero = Le
significance_of (suc c) = Be

-- a sign: 0 unsigned, 1 signed
abbrev pub sign_of : ℕ → Sign
sign_of zero = Unsigned
sign_of (suc c) = Signed

-- a value: `value` where `below` is 0, -1 - `value` where it is 1
abbrev pub number_of : ℕ → ℕ → Number
number_of zero value = Up value
number_of (suc c) value = Down value

-- a bit: 0 or 1
abbrev pub bit_of : ℕ → Bool
bit_of zero = false
bit_of (suc c) = true

-- a span's four arguments
abbrev pub span_of : ℕ → ℕ → ℕ → ℕ → Span
span_of order word head length = span (order_of order) word head length

-- a width: 8, else 64
abbrev pub width_of : ℕ → Width
width_of width = cond (eqb width 8) W8 W64

-- an operation, by the number of its truth table: 8 and, 14 or, else xor
abbrev pub operation_of : ℕ → Operation
operation_of operation = cond (eqb operation 8) And (cond (eqb operation 14) Or Xor)

-- every code with two cases is 0 or 1
abbrev pub none : ℕ → Bool
none code = ltb 1 code

-- a width is 8 or 64
abbrev pub no_width : ℕ → Bool
no_width width = not (eqb width 8 || eqb width 64)

-- an operation is 8, 14 or 6
abbrev pub no_operation : ℕ → Bool
no_operation operation = not (eqb operation 8 || eqb operation 14 || eqb operation 6)

-- 255 where an argument is no code, before every numbered refusal
abbrev pub behind : Bool → Answer → Answer
behind true a = refused 255
behind false a = a

-- the memory behind such a test
abbrev pub kept : Bool → List ℕ → List ℕ → List ℕ
kept true new old = old
kept false new old = new

-- how an answer crosses: a refusal as its number, what was accepted as the values behind the call's pointers
pub data Crossing : Type 0 where
  stopped : ℕ → Crossing
  gave : List ℕ → Crossing

-- an answer's values, in the order of the pointers: a signed number in two's complement, 1 for yes and 0 for no, 1 and an index for found and
-- 0 alone for absent, the rest of a split as its word, head and length
abbrev pub crossing : Answer → Crossing
crossing (refused n) = stopped n
crossing done = gave []
crossing (a_position p) = gave (p ∷ [])
crossing (a_selector s) = gave (s ∷ [])
crossing (a_mask m) = gave (m ∷ [])
crossing (a_span s) = gave (s.word ∷ s.head.0 ∷ s.len ∷ [])
crossing (two_spans s t) = gave (t.word ∷ t.head.0 ∷ t.len ∷ [])
crossing (a_bit b) = gave (b ∷ [])
crossing (a_number z) = gave (bits_of 64 z ∷ [])
crossing says_yes = gave (1 ∷ [])
crossing says_no = gave (0 ∷ [])
crossing (found_at i) = gave (1 ∷ i ∷ [])
crossing absent = gave (0 ∷ [])

-- what a call returns: the number of refusal, or 0
abbrev pub code : Crossing → ℕ
code (stopped n) = n
code (gave values) = 0

-- what its k-th pointer then points to: the k-th value, or what it pointed to before where there is none
abbrev pub pointed : ℕ → Crossing → ℕ → ℕ
pointed k (stopped n) old = old
pointed k (gave values) old = get_or values k old

-- the same of an answer
abbrev pub returned : Answer → ℕ
returned a = code (crossing a)

abbrev pub behind_pointer : ℕ → Answer → ℕ → ℕ
behind_pointer k a old = pointed k (crossing a) old

-- what a call with one out-value promises: the number that it returns, and what stands behind the pointer
pub record Told (answer : Answer) (old r new : ℕ) : Type 0 where
  pub number : r ≡ returned answer
  pub value : new ≡ behind_pointer 0 answer old

-- the same of a search, with its flag and its index
pub record Found (answer : Answer) (oldFlag oldIndex r flag index : ℕ) : Type 0 where
  pub number : r ≡ returned answer
  pub whether : flag ≡ behind_pointer 0 answer oldFlag
  pub where_to : index ≡ behind_pointer 1 answer oldIndex

-- the same of a split, with the three numbers of its rest
pub record Rest (answer : Answer) (oldWord oldHead oldLength r word head length : ℕ) : Type 0 where
  pub number : r ≡ returned answer
  pub first_word : word ≡ behind_pointer 0 answer oldWord
  pub first_head : head ≡ behind_pointer 1 answer oldHead
  pub rest_length : length ≡ behind_pointer 2 answer oldLength

-- what a writing call promises: the number that it returns, and every lent word; `bad` says that an argument is no code
pub record Wrote (W : ℕ) (bad : Bool) (call : Call) (old : List ℕ) (r : ℕ) (new : List ℕ) : Type 0 where
  pub number : r ≡ returned (behind bad (answer W call old))
  pub holds : new ≡ kept bad (after W call old) old

-- the same of a swap, with both buffers
pub record Swapped (W : ℕ) (bad : Bool) (left : List ℕ) (s : Span) (right : List ℕ) (t : Span) (r : ℕ) (newLeft newRight : List ℕ) : Type 0 where
  pub number : r ≡ returned (behind bad (swap_answer W left s right t))
  pub holds_left : newLeft ≡ kept bad (swap_left W left s right t) left
  pub holds_right : newRight ≡ kept bad (swap_right W left s right t) right
