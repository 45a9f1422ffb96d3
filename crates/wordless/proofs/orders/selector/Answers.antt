-- `selector`: as `position`, and the selector is 2 to the position that the leaf gives.
use native.Mathlib.Omega.{arith}
use Rattle.rules.proofs.Refusals.Widths.{bits_upto}
use Rattle.rules.proofs.Refusals.Wordless.{selector_refused, selector_given}
use Rattle.wordless.proofs.orders.selector.Goals as goal

pub returns-then-bits-i : goal.returns-then-bits-i
returns-then-bits-i c = let h = c.bits.ensures in selector_refused _ _ _ (omega arith)

pub selector_at-requires : goal.selector_at-requires
selector_at-requires c = omega (arith, c.position_of-at.ensures, bits_upto c.args.width)

pub returns : goal.returns
returns c = let h = c.bits.ensures in selector_given _ _ _ (omega arith) c.selector_at.ensures c.position_of-at.ensures.0
