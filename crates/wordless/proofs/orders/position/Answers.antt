-- `position`: the one test is the one row of the table, and past it the position is the leaf's.
use native.Mathlib.Omega.{arith}
use Rattle.rules.proofs.Refusals.Wordless.{position_refused, position_given}
use Rattle.wordless.proofs.orders.position.Goals as goal

pub returns-then-bits-i : goal.returns-then-bits-i
returns-then-bits-i c = let h = c.bits.ensures in position_refused _ _ _ (omega arith)

pub returns : goal.returns
returns c = let h = c.bits.ensures in position_given _ _ _ (omega arith) c.position_of.ensures.0
