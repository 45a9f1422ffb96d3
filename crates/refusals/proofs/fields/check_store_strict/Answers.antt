-- `check_store_strict`: what the span is refused for, or the rows that follow. Assumes nothing.
use mathlib.Core.Path.{sym, ◌∙◌}
use Rattle.rules.specs.Refusals.{store_strict_cases}
use Rattle.rules.proofs.Refusals.Tables.{stops, goes}
use Rattle.rules.proofs.Refusals.OneAnswer.{accepted, declined, judged, judges, judges_passed}
use Rattle.refusals.proofs.fields.check_store_strict.Goals as goal

pub returns-in_err-check : goal.returns-in_err-check
unfolding store_strict_cases
returns-in_err-check c = judges_passed c.from_residual.ensures.1 (stops _ _ (declined c.check.ensures c.in_err-check.was))

pub returns : goal.returns
unfolding store_strict_cases
returns c = judges (judged c.check_fit.ensures ∙ sym (goes _ _ (accepted c.check.ensures c.in_ok-check.was)))
