-- Document 01, position rules: positions, selectors, masks, spans and their bits, split and shortening. And what a call that writes a run
-- of bits leaves behind: `spliced`. Cited by every rule that speaks of spans. Assumes nothing.
use Rattle.std.specs.Prelude.{ℕ, zero, suc, ◌+◌, ◌-◌, ◌*◌, ◌/◌, ◌%◌, ◌^◌, Bool, ◌&&◌, cond, List, length, leb, ltb}
use Rattle.rules.specs.Types.{Order, Lsb0, Msb0, Span}
use Rattle.rules.specs.Bits.{bit_at, from_bits}

-- Lsb0: position = index. Msb0: position = W - 1 - index.
unfoldable pub position : ℕ → Order → ℕ → ℕ
position W Lsb0 i = i
position W Msb0 i = W - 1 - i

-- A selector is 2 to the position.
unfoldable pub selector : ℕ → Order → ℕ → ℕ
selector W o i = 2 ^ position W o i

-- the sum of the selectors of k indexes from `from` on
unfoldable pub selectors : ℕ → Order → ℕ → ℕ → ℕ
selectors W o from zero = 0
selectors W o from (suc k) = selectors W o from k + selector W o (from + k)

-- A mask from `from` up to but without `upto` is the sum of its selectors.
unfoldable pub mask : ℕ → Order → ℕ → ℕ → ℕ
mask W o from upto = selectors W o from (upto - from)

-- In an order the bits of a buffer form a row: place j of it is index j mod W of word j div W. The real position of place j, and, as it is its
-- own inverse, the place of a real position:
unfoldable pub mirror : ℕ → Order → ℕ → ℕ
mirror W o j = j / W * W + position W o (j % W)

-- bit j of the row
unfoldable pub row : ℕ → Order → List ℕ → ℕ → ℕ
row W o ws j = bit_at W ws (mirror W o j)

-- the n words whose row is g
unfoldable pub from_row : ℕ → Order → ℕ → (ℕ → ℕ) → List ℕ
from_row W o n g = from_bits W n (λ q. g (mirror W o q))

-- the span of a length that begins at index `head` of a word: the one place where a span is made
abbrev pub span : Order → ℕ → ℕ → ℕ → Span
span o word head len = record { order = o; word = word; head = record { 0 = head }; len = len }

-- the place of a span's first bit
unfoldable pub start : ℕ → Span → ℕ
start W s = s.word * W + s.head.0

-- Bit i of a span: with t = head + i, it is index t mod W of word (first word + t div W); so it is place start + i of the row.
unfoldable pub span_bit : ℕ → List ℕ → Span → ℕ → ℕ
span_bit W ws s i = row W s.order ws (start W s + i)

-- A span is in bounds if W * word + head + length ≤ W * (words lent).
unfoldable pub in_bounds : ℕ → ℕ → Span → Bool
in_bounds W n s = leb (s.word * W + s.head.0 + s.len) (n * W)

-- Split at p: the first p bits keep word and head. Shortening to p is this half.
abbrev pub first_half : Span → ℕ → Span
first_half s p = span s.order s.word s.head.0 p

-- The rest begins where bit p would, with length - p. Both keep the order. Shifting by p is this half.
abbrev pub second_half : ℕ → Span → ℕ → Span
second_half W s p = span s.order (s.word + (s.head.0 + p) / W) ((s.head.0 + p) % W) (s.len - p)

-- j is one of the n places from `at` on
unfoldable pub within : ℕ → ℕ → ℕ → Bool
within at n j = leb at j && ltb j (at + n)

-- the row g with b 0 to b (n - 1) in the n places from `at` on
unfoldable pub over : ℕ → ℕ → (ℕ → ℕ) → (ℕ → ℕ) → ℕ → ℕ
over at n b g j = cond (within at n j) (b (j - at)) (g j)

-- the words after b 0 to b (n - 1) were written at the n places from `at` on; all other bits stay
unfoldable pub spliced : ℕ → Order → List ℕ → ℕ → ℕ → (ℕ → ℕ) → List ℕ
spliced W o ws at n b = from_row W o (length ws) (over at n b (row W o ws))

-- the real position q is that of one of the n places from `at` on
unfoldable pub covers : ℕ → Order → ℕ → ℕ → ℕ → Bool
covers W o at n q = within at n (mirror W o q)
