-- `is_integer`: what a shift by K - 1 leaves tells whether a number is below 2 ^ K, or below its half.
use Prim.Native.Nat.{◌-◌}
use Rattle.rules.specs.Fields.{is_integer}
use Rattle.laws.proofs.Bits.Bounds.{shift_none, shift_one}
use Rattle.refusals.proofs.values.is_integer.Goals as goal

pub returns-in-Up : goal.returns-in-Up
unfolding is_integer
returns-in-Up c = rw (c.in-Unsigned.is, c.in-Up.is) (shift_one _ _ c.requires.0)

pub returns-in-Down : goal.returns-in-Down
unfolding is_integer
returns-in-Down c = rw (c.in-Unsigned.is, c.in-Down.is)

pub returns-in-Up-value : goal.returns-in-Up-value
unfolding is_integer
returns-in-Up-value c = rw (c.in-Signed.is, c.in-Up-value.is) (shift_none c.in-Up-value.n (c.args.k - 1))

pub returns-in-Down-value : goal.returns-in-Down-value
unfolding is_integer
returns-in-Down-value c = rw (c.in-Signed.is, c.in-Down-value.is) (shift_none c.in-Down-value.n (c.args.k - 1))
