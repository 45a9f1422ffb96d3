-- `check_bit`: what the span is refused for, or the last row. Assumes nothing.
use borrow.Author.Tests.{le-leb, lt-leb}
use mathlib.Core.Path.{sym}
use Rattle.rules.specs.Refusals.{bit_cases}
use Rattle.rules.proofs.Refusals.Tables.{stops, last_holds, last_clear}
use Rattle.rules.proofs.Refusals.OneAnswer.{accepted, declined, judges, judges_passed}
use Rattle.refusals.proofs.fields.check_bit.Goals as goal

pub returns-in_err-check : goal.returns-in_err-check
unfolding bit_cases
returns-in_err-check c = judges_passed c.from_residual.ensures.1 (stops _ _ (declined c.check.ensures c.in_err-check.was))

pub returns-then-span-index : goal.returns-then-span-index
unfolding bit_cases
returns-then-span-index c = judges (sym (last_holds _ _ _ (accepted c.check.ensures c.in_ok-check.was) (le-leb _ _ c.if-span-index.true)))

pub returns : goal.returns
unfolding bit_cases
returns c = judges (sym (last_clear _ _ _ (accepted c.check.ensures c.in_ok-check.was) (lt-leb _ _ c.if-span-index.false)))
