-- `Span::shorten`: the place decides, and the span is the first half.
use mathlib.Core.Path.{ap}
use Rattle.rules.specs.Calls.{shorten_answer, a_span}
use Rattle.rules.proofs.Refusals.OneAnswer.{said_passed, said_fine, accepted, declined}
use Rattle.rules.proofs.Span.shorten.Goals as goal

pub returns-in_err-check_place : goal.returns-in_err-check_place
unfolding shorten_answer
returns-in_err-check_place c = said_passed _ _ _ c.from_residual.ensures.1 (declined c.check_place.ensures c.in_err-check_place.was)

pub returns : goal.returns
unfolding shorten_answer
returns c = said_fine (accepted c.check_place.ensures c.in_ok-check_place.was) (ap a_span c.first.ensures)
