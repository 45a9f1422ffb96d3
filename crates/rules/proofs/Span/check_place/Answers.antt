-- `Span::check_place`: the span's table, then its last row.
use mathlib.Core.Path.{sym}
use borrow.Author.Tests.{lt-ltb, le-ltb}
use Rattle.rules.specs.Refusals.{split_cases}
use Rattle.rules.proofs.Refusals.Tables.{stops, last_holds, last_clear}
use Rattle.rules.proofs.Refusals.OneAnswer.{accepted, declined, judges, judges_passed}
use Rattle.rules.proofs.Span.check_place.Goals as goal

pub returns-in_err-check : goal.returns-in_err-check
unfolding split_cases
returns-in_err-check c = judges_passed c.from_residual.ensures.1 (stops _ _ (declined c.check.ensures c.in_err-check.was))

pub returns-then-self-p : goal.returns-then-self-p
unfolding split_cases
returns-then-self-p c = judges (sym (last_holds _ _ _ (accepted c.check.ensures c.in_ok-check.was) (lt-ltb _ _ c.if-self-p.true)))

pub returns : goal.returns
unfolding split_cases
returns c = judges (sym (last_clear _ _ _ (accepted c.check.ensures c.in_ok-check.was) (le-ltb _ _ c.if-self-p.false)))
