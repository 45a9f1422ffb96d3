-- Document 01, field rules. A field of n bits begins at the place `at` of the row. Cited by loads and stores. Assumes nothing.
use Rattle.std.specs.Prelude.{ℕ, zero, suc, ◌+◌, ◌-◌, ◌*◌, ◌/◌, ◌^◌, min, Bool, false, cond, ◌||◌, List, ltb, eqb, ℤ, pos, negsuc}
use Rattle.rules.specs.Types.{Order, Lsb0, Msb0, Significance, Le, Be, Sign, Unsigned, Signed, Number, Up, Down}
use Rattle.rules.specs.Bits.{bit_n}
use Rattle.rules.specs.Positions.{row, spliced}

-- A field is a span of 1 to K bits, K = 8, 16, 32 or 64.
unfoldable pub is_size : ℕ → Bool
is_size K = eqb K 8 || eqb K 16 || eqb K 32 || eqb K 64

-- Cut it where words end. The index in the field of the first bit of the piece that holds bit i
unfoldable pub piece_from : ℕ → ℕ → ℕ → ℕ
piece_from W at i = (at + i) / W * W - at

-- the same for the bit past its last one
unfoldable pub piece_upto : ℕ → ℕ → ℕ → ℕ → ℕ
piece_upto W at n i = min n ((at + i) / W * W + W - at)

-- Each piece is read with the word's own significance, its lowest position worth 1; with le the first piece is the least significant, with be
-- the most significant. Bit i weighs 2 to the
unfoldable pub exponent : ℕ → Order → Significance → ℕ → ℕ → ℕ → ℕ
exponent W Lsb0 Le at n i = i
exponent W Msb0 Be at n i = n - 1 - i
exponent W Msb0 Le at n i = piece_from W at i + (piece_upto W at n i - 1 - i)
exponent W Lsb0 Be at n i = n - piece_upto W at n i + (i - piece_from W at i)

-- the sum, over i < n, of g i * 2 ^ e i
unfoldable pub weigh : ℕ → (ℕ → ℕ) → (ℕ → ℕ) → ℕ
weigh zero g e = 0
weigh (suc n) g e = weigh n g e + g n * 2 ^ e n

-- Unsigned load: that number.
unfoldable pub load_of : ℕ → Order → Significance → List ℕ → ℕ → ℕ → ℕ
load_of W o e ws at n = weigh n (λ i. row W o ws (at + i)) (exponent W o e at n)

-- Signed load: the number congruent to it modulo 2 ^ n in -2 ^ (n - 1) to 2 ^ (n - 1) - 1.
unfoldable pub signed_of : ℕ → ℕ → ℤ
signed_of n u = cond (ltb u (2 ^ (n - 1))) (pos u) (negsuc (2 ^ n - 1 - u))

-- a load's number by its sign
unfoldable pub read_as : Sign → ℕ → ℕ → ℤ
read_as Unsigned n u = pos u
read_as Signed n u = signed_of n u

-- A value handed in is a whole number: Down n is -1 - n.
abbrev pub whole : Number → ℤ
whole (Up n) = pos n
whole (Down n) = negsuc n

-- The value's bits: of a negative one, those of value + 2 ^ K.
unfoldable pub bits_of : ℕ → ℤ → ℕ
bits_of K (pos n) = n
bits_of K (negsuc n) = 2 ^ K - 1 - n

-- Store: the low n bits are placed so that a load returns them; all other bits stay.
unfoldable pub store_of : ℕ → Order → Significance → List ℕ → ℕ → ℕ → ℕ → List ℕ
store_of W o e ws at n v = spliced W o ws at n (λ i. bit_n v (exponent W o e at n i))

-- The value is a K-bit integer of its sign.
unfoldable pub is_integer : ℕ → Sign → ℤ → Bool
is_integer K Unsigned (pos m) = ltb m (2 ^ K)
is_integer K Unsigned (negsuc m) = false
is_integer K Signed (pos m) = ltb m (2 ^ (K - 1))
is_integer K Signed (negsuc m) = ltb m (2 ^ (K - 1))

-- It fits: unsigned, value < 2 ^ n; signed, its magnitude is below 2 ^ (n - 1).
unfoldable pub fits : ℕ → Sign → ℤ → Bool
fits n Unsigned (pos m) = ltb m (2 ^ n)
fits n Unsigned (negsuc m) = false
fits n Signed (pos m) = ltb m (2 ^ (n - 1))
fits n Signed (negsuc m) = ltb (suc m) (2 ^ (n - 1))
