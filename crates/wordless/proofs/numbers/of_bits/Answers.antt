-- `of_bits`: bits that stand for a number below 0 are more than what they lack of the largest number.
use Rattle.laws.proofs.Bits.Bounds.{signed_up, signed_down}
use native.Mathlib.Omega.{arith}
use Rattle.rules.specs.Fields.{read_as}
use Rattle.wordless.proofs.numbers.of_bits.Goals as goal

pub returns-in-Unsigned : goal.returns-in-Unsigned
unfolding read_as
returns-in-Unsigned c = rw c.in-Unsigned.is

pub returns-then-loaded-below : goal.returns-then-loaded-below
unfolding read_as
returns-then-loaded-below c = rw c.in-Signed.is (signed_up _ _ c.requires.0 c.low_ones.ensures (omega arith))

pub returns-else-loaded-below : goal.returns-else-loaded-below
unfolding read_as
returns-else-loaded-below c = rw c.in-Signed.is (signed_down _ _ c.requires.0 c.low_ones.ensures (omega arith))
