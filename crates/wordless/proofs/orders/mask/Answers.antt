-- `mask`: the three tests are the rows of the table in their order; past them the mask is `mask_of`.
use native.Mathlib.Omega.{arith}
use Rattle.rules.proofs.Refusals.Wordless.{mask_refused_2, mask_past, mask_crossed, mask_given}
use Rattle.wordless.proofs.orders.mask.Goals as goal

pub returns-then-w-f : goal.returns-then-w-f
returns-then-w-f c = let h = c.bits-w.ensures in mask_refused_2 _ _ _ _ (omega arith)

pub returns-then-w-u : goal.returns-then-w-u
returns-then-w-u c = let h = c.bits-w.ensures in mask_past _ _ _ _ (omega arith) (omega arith)

pub returns-then-u-f : goal.returns-then-u-f
returns-then-u-f c = let h = c.bits-w.ensures in mask_crossed _ _ _ _ (omega arith) (omega arith)

pub returns : goal.returns
returns c = let h = c.bits-w.ensures in mask_given _ _ _ _ (omega arith) (omega arith) (omega arith) c.mask_of.ensures
