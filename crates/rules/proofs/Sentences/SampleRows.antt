-- The sample requests that are marked (*) in the table of samples: what each answers and leaves, computed from the rules. Assumes nothing.
use Rattle.std.specs.Prelude.{◌≡◌, refl, [], ◌∷◌, map, pos, negsuc}
use Rattle.rules.specs.Bits.{bit_n, of_bits, tabulate, bit_at, from_bits}
use Rattle.rules.specs.Positions.{position, mirror, row, from_row, start, span_bit, in_bounds, within, over, spliced}
use Rattle.rules.specs.Fields.{piece_from, piece_upto, exponent, weigh, load_of, signed_of, read_as, bits_of, store_of, is_size, is_integer}
use Rattle.rules.specs.Rows.{moved, copied_within}
use Rattle.rules.specs.Refusals.{verdict, span_cases, field_cases, value_cases, load_cases, store_cases, within_cases}
use Rattle.rules.specs.Calls.{cases, answer!, after!, answer, after}
use Rattle.rules.specs.Samples.{samples, outcome, loads, leaves}

-- the marked rows of the sample table
pub sample_rows :
    map outcome samples
    ≡ loads (pos 0xCB) ∷ loads (pos 0x64) ∷ loads (pos 0xBC) ∷ loads (pos 0x46) ∷ loads (negsuc 52) ∷ loads (pos 6) ∷ loads (pos 5)
    ∷ loads (pos 0xF6C4) ∷ leaves (0xB0 ∷ 0x0C ∷ 0 ∷ []) ∷ leaves (0x0B ∷ 0xC0 ∷ 0 ∷ []) ∷ leaves (0xD0 ∷ []) ∷ []
unfolding bit_n of_bits tabulate bit_at from_bits position mirror row from_row start span_bit in_bounds within over spliced piece_from piece_upto
    exponent weigh load_of signed_of read_as bits_of store_of is_size is_integer moved copied_within verdict span_cases field_cases value_cases
    load_cases store_cases within_cases cases answer! after! answer after
sample_rows = refl
