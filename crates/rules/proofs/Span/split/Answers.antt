-- `Span::split`: the place decides, and the two halves are the leaves' own.
use mathlib.Core.Path.{ap₂}
use Rattle.rules.specs.Calls.{split_answer, two_spans}
use Rattle.rules.proofs.Refusals.OneAnswer.{said_passed, said_fine, accepted, declined}
use Rattle.rules.proofs.Span.split.Goals as goal

pub returns-in_err-check_place : goal.returns-in_err-check_place
unfolding split_answer
returns-in_err-check_place c = said_passed _ _ _ c.from_residual.ensures.1 (declined c.check_place.ensures c.in_err-check_place.was)

pub returns : goal.returns
unfolding split_answer
returns c = said_fine (accepted c.check_place.ensures c.in_ok-check_place.was) (ap₂ two_spans c.first-left.ensures c.rest-rest.ensures)
