-- `check_fit`: the value's table, then the row of refusal 9.
use mathlib.Core.Path.{sym, ap, ◌∙◌}
use mathlib.Core.Bool.{not}
use native.Mathlib.Omega.{arith}
use Rattle.rules.specs.Refusals.{fitting_cases}
use Rattle.rules.proofs.Refusals.Tables.{stops, last_holds, last_clear}
use Rattle.rules.proofs.Refusals.Accepted.{fine_valued}
use Rattle.rules.proofs.Refusals.OneAnswer.{accepted, declined, judges, judges_passed}
use Rattle.refusals.proofs.values.check_fit.Goals as goal

pub fits-requires : goal.fits-requires
fits-requires c = let s = (fine_valued _ _ _ _ (accepted c.check_value.ensures c.in_ok-check_value.was)).sized in (omega arith, omega arith)

pub returns-in_err-check_value : goal.returns-in_err-check_value
unfolding fitting_cases
returns-in_err-check_value c = judges_passed c.from_residual.ensures.1 (stops _ _ (declined c.check_value.ensures c.in_err-check_value.was))

pub returns-then-fits : goal.returns-then-fits
unfolding fitting_cases
returns-then-fits c =
    judges (sym (last_clear _ _ _ (accepted c.check_value.ensures c.in_ok-check_value.was) (ap not (sym c.fits.ensures ∙ c.if-fits.true))))

pub returns : goal.returns
unfolding fitting_cases
returns c =
    judges (sym (last_holds _ _ _ (accepted c.check_value.ensures c.in_ok-check_value.was) (ap not (sym c.fits.ensures ∙ c.if-fits.false))))
