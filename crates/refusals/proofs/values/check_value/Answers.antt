-- `check_value`: the field's table, then the row of refusal 8.
use mathlib.Core.Path.{sym, ap, ◌∙◌}
use mathlib.Core.Bool.{not}
use native.Mathlib.Omega.{arith}
use Rattle.rules.specs.Refusals.{value_cases}
use Rattle.rules.proofs.Refusals.Tables.{stops, last_holds, last_clear}
use Rattle.rules.proofs.Refusals.Accepted.{fine_sized}
use Rattle.rules.proofs.Refusals.OneAnswer.{accepted, declined, judges, judges_passed}
use Rattle.refusals.proofs.values.check_value.Goals as goal

pub is_integer-requires : goal.is_integer-requires
is_integer-requires c = let s = fine_sized _ _ (accepted c.check_field.ensures c.in_ok-check_field.was) in (omega arith, omega arith)

pub returns-in_err-check_field : goal.returns-in_err-check_field
unfolding value_cases
returns-in_err-check_field c = judges_passed c.from_residual.ensures.1 (stops _ _ (declined c.check_field.ensures c.in_err-check_field.was))

pub returns-then-is_integer : goal.returns-then-is_integer
unfolding value_cases
returns-then-is_integer c =
    judges (sym (last_clear _ _ _ (accepted c.check_field.ensures c.in_ok-check_field.was) (ap not (sym c.is_integer.ensures ∙ c.if-is_integer.true))))

pub returns : goal.returns
unfolding value_cases
returns c =
    judges (sym (last_holds _ _ _ (accepted c.check_field.ensures c.in_ok-check_field.was) (ap not (sym c.is_integer.ensures ∙ c.if-is_integer.false))))
