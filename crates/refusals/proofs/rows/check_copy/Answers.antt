-- `check_copy` is the check of a pair, and then one row more.
use mathlib.Core.Path.{sym, ap}
use mathlib.Core.Bool.{not}
use borrow.Author.Tests.{eq-eqb, ne_eqb}
use Rattle.rules.specs.Refusals.{copy_cases}
use Rattle.rules.proofs.Refusals.Tables.{stops, last_holds, last_clear}
use Rattle.rules.proofs.Refusals.OneAnswer.{accepted, declined, judges, judges_passed}
use Rattle.refusals.proofs.rows.check_copy.Goals as goal

pub returns-in_err-check_pair : goal.returns-in_err-check_pair
unfolding copy_cases
returns-in_err-check_pair c = judges_passed c.from_residual.ensures.1 (stops _ _ (declined c.check_pair.ensures c.in_err-check_pair.was))

pub returns-then-left-right : goal.returns-then-left-right
unfolding copy_cases
returns-then-left-right c = judges (sym (last_clear _ _ _ (accepted c.check_pair.ensures c.in_ok-check_pair.was) (ap not (eq-eqb _ _ c.if-left-right.true))))

pub returns : goal.returns
unfolding copy_cases
returns c = judges (sym (last_holds _ _ _ (accepted c.check_pair.ensures c.in_ok-check_pair.was) (ap not (ne_eqb _ _ c.if-left-right.false))))
