-- `mask_of`: an empty mask is 0; the ones of another go from the lowest position of their indexes up, in either order.
use Rattle.rules.proofs.Bits.Masks.{mask_from}
use Rattle.rules.proofs.Refusals.Wordless.{lowest_lsb0, lowest_msb0, empty_mask}
use native.Mathlib.Omega.{arith}
use Rattle.rules.proofs.Refusals.Widths.{bits_upto}
use Rattle.wordless.proofs.orders.mask_of.Goals as goal

pub returns-then-u-f : goal.returns-then-u-f
returns-then-u-f c = empty_mask _ _ _ _ c.if-u-f.true

pub mask_at-requires : goal.mask_at-requires
mask_at-requires c = let n = c.if-u-f.false in (omega arith, omega (arith, bits_upto c.args.width))

pub mask_at-requires-in-Msb0 : goal.mask_at-requires-in-Msb0
mask_at-requires-in-Msb0 c =
    let n = c.if-u-f.false in
    let h = c.bits.ensures in
    (omega arith, omega (arith, bits_upto c.args.width))

pub returns-in-Lsb0 : goal.returns-in-Lsb0
returns-in-Lsb0 c = let p = c.requires in
    mask_from _ _ _ _ _ p.1 p.2 (lowest_lsb0 _ _ _ c.in-Lsb0.is) c.mask_at.ensures

pub returns-in-Msb0 : goal.returns-in-Msb0
returns-in-Msb0 c = let p = c.requires in
    let h = c.bits.ensures in
    mask_from _ _ _ _ _ p.1 p.2 (rw h (lowest_msb0 _ _ _ c.in-Msb0.is p.1)) c.mask_at-in-Msb0.ensures
