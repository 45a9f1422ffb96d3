-- `fits`: as `is_integer`, with the length for K; of a number below 0 the magnitude is tested.
use lib.Pow.{pow_pos}
use Rattle.rules.specs.Fields.{fits}
use Rattle.laws.proofs.Bits.Bounds.{upto, under, half_ones}
use Rattle.refusals.proofs.values.fits.Goals as goal

pub returns-in-Up : goal.returns-in-Up
unfolding fits
returns-in-Up c =
    rw (c.in-Unsigned.is, c.in-Up.is) (upto _ (c.low_ones-top.ensures) (pow_pos _))

pub returns-in-Down : goal.returns-in-Down
unfolding fits
returns-in-Down c = rw (c.in-Unsigned.is, c.in-Down.is)

pub returns-in-Up-value : goal.returns-in-Up-value
unfolding fits
returns-in-Up-value c =
    rw (c.in-Signed.is, c.in-Up-value.is) (upto _ (half_ones c.args.len c.requires.0 c.low_ones-top.ensures) (pow_pos _))

pub returns-in-Down-value : goal.returns-in-Down-value
unfolding fits
returns-in-Down-value c =
    rw (c.in-Signed.is, c.in-Down-value.is) (under _ _ (half_ones c.args.len c.requires.0 c.low_ones-top.ensures))
