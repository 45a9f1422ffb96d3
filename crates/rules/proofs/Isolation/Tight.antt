-- No stated position is idle: for a call of each kind, each position that it is said to read matters to what it answers or writes, and each
-- position that it is said to write can change. All positions of a buffer of two bytes are tried, by computation. Assumes nothing.
use Prim.Native.Nat.{ℕ, zero, suc, ◌+◌, ◌-◌, ◌*◌}
use mathlib.Core.Path.{◌≡◌, refl}
use mathlib.Core.Bool.{Bool, true, false, not, ◌&&◌, ◌||◌}
use mathlib.Core.List.{List, [], ◌∷◌}
use lib.Dec.{eqb}
use lib.IntN.{pos, negsuc}
use Rattle.rules.specs.Types.{Lsb0, Msb0, Le, Be, Unsigned, Signed}
use Rattle.rules.specs.Bits.{bit_n, of_bits, tabulate, bit_at, from_bits}
use Rattle.rules.specs.Positions.{position, mirror, row, from_row, start, span_bit, in_bounds, within, over, spliced, covers}
use Rattle.rules.specs.Fields.{is_size, piece_from, piece_upto, exponent, weigh, load_of, signed_of, read_as, bits_of, store_of, is_integer, fits}
use Rattle.rules.specs.Rows.{copied, moved, copied_within, applied, right_bit, combined, same_bits, same_spans, first_with, last_with}
use Rattle.rules.specs.Refusals.{verdict, span_cases, bit_cases, field_cases, value_cases, fitting_cases, load_cases, store_cases, store_strict_cases, pair_cases, copy_cases, within_cases}
use Rattle.rules.specs.Calls.{Answer, refused, done, a_position, a_selector, a_mask, a_span, two_spans, a_bit, a_number, says_yes, says_no, found_at, absent, Call, here, there, read_bit, write_bit, load, store, store_strict, copy_from, copy_within, boolean, equal, find_first, find_last, cases, answer!, after!, reads!, writes!, answer, after, reads, writes}
use Rattle.rules.specs.Samples.{at_head}

-- a number that tells the answers of one-buffer calls apart
abbrev pub code : Answer → ℕ
code (refused n) = 16 * n
code done = 1
code (a_position n) = 16 * n + 2
code (a_selector n) = 16 * n + 3
code (a_mask n) = 16 * n + 4
code (a_span s) = 5
code (two_spans s t) = 6
code (a_bit n) = 16 * n + 7
code (a_number (pos n)) = 16 * n + 8
code (a_number (negsuc n)) = 16 * n + 9
code says_yes = 10
code says_no = 11
code (found_at n) = 16 * n + 12
code absent = 13

-- the buffer with the bit at q turned over
unfoldable pub turned : List ℕ → ℕ → List ℕ
turned ws q = spliced 8 Lsb0 ws q 1 (λ _. 1 - bit_at 8 ws q)

-- some position below n has the property
unfoldable pub some : ℕ → (ℕ → Bool) → Bool
some zero p = false
some (suc n) p = p n || some n p

unfoldable pub every : ℕ → (ℕ → Bool) → Bool
every zero p = true
every (suc n) p = p n && every n p

-- with the bit at q turned over, the call answers something else, or writes something else somewhere
unfoldable pub matters : Call → List ℕ → ℕ → Bool
matters c ws q =
    not (eqb (code (answer 8 c ws)) (code (answer 8 c (turned ws q))))
    || some 16 (λ p. writes 8 2 c p && not (eqb (bit_at 8 (after 8 c ws) p) (bit_at 8 (after 8 c (turned ws q)) p)))

-- every position that the call reads matters, and at least one is read
unfoldable pub reads_matter : Call → List ℕ → Bool
reads_matter c ws = some 16 (reads 8 2 c) && every 16 (λ q. not (reads 8 2 c q) || matters c ws q)

-- every position that the call writes changes, and at least one is written
unfoldable pub writes_change : Call → List ℕ → Bool
writes_change c ws = some 16 (writes 8 2 c) && every 16 (λ q. not (writes 8 2 c q) || not (eqb (bit_at 8 (after 8 c ws) q) (bit_at 8 ws q)))

abbrev pub zeros : List ℕ
zeros = 0 ∷ 0 ∷ []

abbrev pub ones : List ℕ
ones = 0xFF ∷ 0xFF ∷ []

pub no_idle_read :
    reads_matter (read_bit (at_head Msb0 3 9) 6) zeros
    ∷ reads_matter (load (at_head Lsb0 5 9) 16 Be Signed) zeros
    ∷ reads_matter (copy_within (at_head Msb0 1 13) 2 5 4) zeros
    ∷ reads_matter (boolean 6 (at_head Lsb0 3 9) ones (at_head Lsb0 2 5)) zeros
    ∷ reads_matter (equal here (at_head Msb0 0 6) here (at_head Msb0 7 6)) zeros
    ∷ reads_matter (equal (there zeros) (at_head Lsb0 2 9) here (at_head Lsb0 3 9)) zeros
    ∷ reads_matter (find_first 1 (at_head Lsb0 3 9)) zeros
    ∷ reads_matter (find_last 1 (at_head Msb0 3 9)) zeros
    ∷ reads_matter (find_first 0 (at_head Msb0 3 9)) ones
    ∷ reads_matter (find_last 0 (at_head Lsb0 3 9)) ones
    ∷ []
    ≡ true ∷ true ∷ true ∷ true ∷ true ∷ true ∷ true ∷ true ∷ true ∷ true ∷ []
unfolding reads_matter matters some every turned reads writes reads! writes! covers answer after answer! after! cases verdict span_cases bit_cases field_cases load_cases pair_cases within_cases is_size in_bounds within over spliced from_row from_bits tabulate of_bits span_bit start row mirror position bit_at bit_n load_of read_as signed_of weigh exponent piece_from piece_upto copied_within moved combined applied right_bit same_bits same_spans first_with last_with
no_idle_read = refl

pub no_idle_write :
    writes_change (write_bit (at_head Msb0 3 9) 6 true) zeros
    ∷ writes_change (store (at_head Lsb0 5 9) 16 Be Signed (negsuc 0)) zeros
    ∷ writes_change (store_strict (at_head Msb0 5 9) 16 Le Unsigned (pos 511)) zeros
    ∷ writes_change (copy_from (at_head Msb0 3 9) ones (at_head Msb0 1 9)) zeros
    ∷ writes_change (copy_within (at_head Lsb0 0 16) 8 8 0) (0 ∷ 0xFF ∷ [])
    ∷ writes_change (boolean 6 (at_head Lsb0 3 9) ones (at_head Lsb0 2 9)) zeros
    ∷ []
    ≡ true ∷ true ∷ true ∷ true ∷ true ∷ true ∷ []
unfolding writes_change some every writes writes! covers after after! cases verdict span_cases bit_cases field_cases value_cases fitting_cases load_cases store_cases store_strict_cases pair_cases copy_cases within_cases is_size is_integer fits in_bounds within over spliced from_row from_bits tabulate of_bits span_bit start row mirror position bit_at bit_n store_of bits_of exponent piece_from piece_upto copied copied_within moved combined applied right_bit
no_idle_write = refl
