-- `with_piece` clears the bits by a mask and puts the new ones there: `masked`. Assumes nothing.
use native.Mathlib.Omega.{arith}
use native.Mathlib.Nat.{mod-lt, lt_of_lt_of_le}
use mathlib.Core.Path.{◌≡◌}
use Prim.Native.Nat.{◌+◌, ◌-◌, ◌*◌, ◌^◌, ◌%◌, ◌<◌}
use lib.Pow.{shl_exact, ones_lt, shl_lt, pow_mono, pow_pos}
use lib.Bits.{bit_and, bit_or, and_mask}
use Rattle.rules.proofs.Fields.Field.{lowest}
use Rattle.laws.proofs.Fields.Chunk.{masked, masked_lt, lowest_fits}
use Rattle.pieces.proofs.with_piece.Goals as goal

is : (c : goal.After-struct_known-1) → (let a = c.args in
    bit_or (bit_and a.x (c.low_ones-all.result - c.mask_at-mask.result.0)) (bit_and a.v c.low_ones-low.result * 2 ^ c.lowest_of-lowest.result.0 % 2 ^ 64)
    ≡ masked a.width a.x (lowest a.width a.order a.head.0 a.n) a.n a.v)
unfolding masked
is c =
    let a = c.args in
    let p = c.lowest_of-lowest.result.0 in
    rw (c.low_ones-low.ensures, c.low_ones-all.ensures, c.mask_at-mask.ensures, and_mask a.v a.n, shl_exact a.n p 64 (mod-lt a.v (pow_pos a.n)) (omega arith), c.lowest_of-lowest.ensures.0)

pub overflow_sub-result : goal.overflow_sub-result
overflow_sub-result c = let a = c.args in
    let p = c.lowest_of-lowest.result.0 in
    let m : (2 ^ a.n - 1) * 2 ^ p < 2 ^ a.width = lt_of_lt_of_le (shl_lt a.n p (ones_lt a.n)) (pow_mono {i = a.n + p} {j = a.width} (omega arith)) in
    omega (arith, c.low_ones-all.ensures, c.mask_at-mask.ensures)

pub returns : goal.returns
returns c = let a = c.args in
    (is c, rw (is c) (masked_lt a.width (lowest a.width a.order a.head.0 a.n) a.n (lowest_fits a.width a.order a.head.0 a.n c.requires.1) a.x a.v c.requires.3))
