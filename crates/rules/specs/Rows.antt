-- Document 01, row rules: the bits that copies and boolean calls write, equality, the four searches. `b i` is bit i of a span. Cited by the
-- calls on rows. Assumes nothing.
use Rattle.std.specs.Prelude.{ℕ, zero, suc, ◌+◌, ◌*◌, Bool, true, ◌&&◌, cond, List, ltb, eqb}
use Rattle.rules.specs.Types.{Order, Span, Operation, And, Or, Xor}
use Rattle.rules.specs.Bits.{bit_n}
use Rattle.rules.specs.Positions.{row, start, span_bit, spliced}

-- Copy between: bit i of the target s becomes bit i of the source t.
unfoldable pub copied : ℕ → List ℕ → Span → List ℕ → Span → List ℕ
copied W ws s vs t = spliced W s.order ws (start W s) s.len (span_bit W vs t)

-- the n places from `to` on become what the n places from `from` on were
unfoldable pub moved : ℕ → Order → List ℕ → ℕ → ℕ → ℕ → List ℕ
moved W o ws from to n = spliced W o ws to n (λ i. row W o ws (from + i))

-- Copy inside: bit to + i of the row span becomes the old bit from + i, for all i at once. Other bits stay.
unfoldable pub copied_within : ℕ → List ℕ → Span → ℕ → ℕ → ℕ → List ℕ
copied_within W ws s from count to = moved W s.order ws (start W s + from) (start W s + to) count

-- Boolean: an operation is its truth table's number; for left bit a and right bit b the result is its bit 2 a + b.
abbrev pub operation : Operation → ℕ
operation And = 8
operation Or = 14
operation Xor = 6

-- the result bit of an operation
unfoldable pub applied : ℕ → ℕ → ℕ → ℕ
applied op a b = bit_n op (2 * a + b)

-- Right bits past its end count as false; right bits past the left's end are ignored.
unfoldable pub right_bit : ℕ → List ℕ → Span → ℕ → ℕ
right_bit W vs t i = cond (ltb i t.len) (span_bit W vs t i) 0

-- The result goes into the left span s.
unfoldable pub combined : ℕ → ℕ → List ℕ → Span → List ℕ → Span → List ℕ
combined W op ws s vs t =
    spliced W s.order ws (start W s) s.len (λ i. applied op (span_bit W ws s i) (right_bit W vs t i))

-- Equal: yes exactly if lengths and all bits agree.
unfoldable pub same_bits : ℕ → (ℕ → ℕ) → (ℕ → ℕ) → Bool
same_bits zero b c = true
same_bits (suc n) b c = eqb (b n) (c n) && same_bits n b c

-- of two spans
unfoldable pub same_spans : ℕ → List ℕ → Span → List ℕ → Span → Bool
same_spans W ws s vs t = eqb s.len t.len && same_bits s.len (span_bit W ws s) (span_bit W vs t)

-- First: the smallest i < n with b i equal to v; n where there is none.
unfoldable pub first_with : ℕ → (ℕ → ℕ) → ℕ → ℕ
first_with zero b v = 0
first_with (suc n) b v = cond (eqb (b 0) v) 0 (suc (first_with n (λ i. b (suc i)) v))

-- Last: one more than the largest i < n with b i equal to v; 0 where there is none.
unfoldable pub last_with : ℕ → (ℕ → ℕ) → ℕ → ℕ
last_with zero b v = 0
last_with (suc n) b v = cond (eqb (b n) v) (suc n) (last_with n b v)
