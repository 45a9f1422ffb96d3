-- `check_rows`: what the span is refused for, or the rows that follow. Assumes nothing.
use mathlib.Core.Path.{sym, ◌∙◌}
use Rattle.rules.specs.Refusals.{load_cases}
use Rattle.rules.proofs.Refusals.Tables.{stops, goes}
use Rattle.rules.proofs.Refusals.OneAnswer.{accepted, declined, judged, judges, judges_passed}
use Rattle.refusals.proofs.fields.check_rows.Goals as goal

pub returns-in_err-check : goal.returns-in_err-check
unfolding load_cases
returns-in_err-check c = judges_passed c.from_residual.ensures.1 (stops _ _ (declined c.check.ensures c.in_err-check.was))

pub returns : goal.returns
unfolding load_cases
returns c = judges (judged c.check_field.ensures ∙ sym (goes _ _ (accepted c.check.ensures c.in_ok-check.was)))
