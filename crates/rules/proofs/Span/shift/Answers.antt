-- `Span::shift`: the place decides, and the span is the second half.
use mathlib.Core.Path.{ap}
use Rattle.rules.specs.Calls.{shift_answer, a_span}
use Rattle.rules.proofs.Refusals.OneAnswer.{said_passed, said_fine, accepted, declined}
use Rattle.rules.proofs.Span.shift.Goals as goal

pub returns-in_err-check_place : goal.returns-in_err-check_place
unfolding shift_answer
returns-in_err-check_place c = said_passed _ _ _ c.from_residual.ensures.1 (declined c.check_place.ensures c.in_err-check_place.was)

pub returns : goal.returns
unfolding shift_answer
returns c = said_fine (accepted c.check_place.ensures c.in_ok-check_place.was) (ap a_span c.rest.ensures)
