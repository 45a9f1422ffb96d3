-- `is_size`: a bit of 120 first, then a power of two.
use mathlib.Core.Path.{sym}
use Rattle.laws.proofs.Bits.Sizes.{no_bit, some_bit, power}
use Rattle.refusals.proofs.values.is_size.Goals as goal

pub returns-then-k-eq0 : goal.returns-then-k-eq0
returns-then-k-eq0 c = sym (no_bit _ c.if-k-eq0.true)

pub overflow_sub-result : goal.overflow_sub-result
overflow_sub-result c = some_bit _ c.if-k-eq0.false

pub returns : goal.returns
returns c = power _ c.if-k-eq0.false
