-- Bits of numbers, and of the words of a buffer, at any width W. A buffer is the list of its words. Every definition and law of the crate
-- rests on these. Assumes nothing.
use Rattle.std.specs.Prelude.{ℕ, zero, suc, ◌+◌, ◌*◌, ◌/◌, ◌%◌, ◌^◌, List, [], ◌∷◌, get_or}
use Rattle.rules.specs.Types.{Width, W8, W64}

-- Lent words of W bits: W = 8 and W = 64.
abbrev pub bits : Width → ℕ
bits W8 = 8
bits W64 = 64

-- bit k of a number
unfoldable pub bit_n : ℕ → ℕ → ℕ
bit_n n k = n / 2 ^ k % 2

-- the number below 2 ^ n whose bit k is f k, taken modulo 2
unfoldable pub of_bits : ℕ → (ℕ → ℕ) → ℕ
of_bits zero f = 0
of_bits (suc n) f = f 0 % 2 + 2 * of_bits n (λ k. f (suc k))

-- f 0 to f (n - 1)
unfoldable pub tabulate : ℕ → (ℕ → ℕ) → List ℕ
tabulate zero f = []
tabulate (suc n) f = f 0 ∷ tabulate n (λ k. f (suc k))

-- the bit of a buffer at the place q: real position q % W of word q / W
unfoldable pub bit_at : ℕ → List ℕ → ℕ → ℕ
bit_at W ws q = bit_n (get_or ws (q / W) 0) (q % W)

-- the n words whose bit at each such place q is f q
unfoldable pub from_bits : ℕ → ℕ → (ℕ → ℕ) → List ℕ
from_bits W n f = tabulate n (λ k. of_bits W (λ p. f (k * W + p)))
