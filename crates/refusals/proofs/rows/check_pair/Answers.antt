-- `check_pair` looks at the rows of the two spans in turn, and then at the orders.
use denote.Enum.Bare.{sameb}
use mathlib.Core.Bool.{not}
use mathlib.Core.Path.{◌≡◌, refl, sym, ap, ◌∙◌}
use Rattle.laws.specs.Types.{Order, Lsb0, Msb0}
use Rattle.rules.specs.contracts.Order.{the_type}
use Rattle.rules.specs.Refusals.{same_order, pair_cases}
use Rattle.rules.proofs.Refusals.Tables.{stops, goes, last_holds, last_clear}
use Rattle.rules.proofs.Refusals.OneAnswer.{accepted, declined, judges, judges_passed}
use Rattle.refusals.proofs.rows.check_pair.Goals as goal

-- what `==` of orders tests
tested : (a b : Order) → same_order a b ≡ sameb the_type a b
tested Lsb0 Lsb0 = refl
tested Lsb0 Msb0 = refl
tested Msb0 Lsb0 = refl
tested Msb0 Msb0 = refl

pub returns-in_err-check : goal.returns-in_err-check
unfolding pair_cases
returns-in_err-check c = judges_passed c.from_residual.ensures.1 (stops _ _ (declined c.check.ensures c.in_err-check.was))

pub returns-in_err-check-2 : goal.returns-in_err-check-2
unfolding pair_cases
returns-in_err-check-2 c =
    judges_passed c.from_residual-in_err-check-2.ensures.1
    (goes _ _ (accepted c.check.ensures c.in_ok-check.was) ∙ stops _ _ (declined c.check-2.ensures c.in_err-check-2.was))

pub returns-then-ne : goal.returns-then-ne
unfolding pair_cases
returns-then-ne c =
    judges (sym (goes _ _ (accepted c.check.ensures c.in_ok-check.was) ∙ last_holds _ _ _ (accepted c.check-2.ensures c.in_ok-check-2.was) (ap not (tested _ _) ∙ sym c.ne.ensures ∙ c.if-ne.true)))

pub returns : goal.returns
unfolding pair_cases
returns c =
    judges (sym (goes _ _ (accepted c.check.ensures c.in_ok-check.was) ∙ last_clear _ _ _ (accepted c.check-2.ensures c.in_ok-check-2.was) (ap not (tested _ _) ∙ sym c.ne.ensures ∙ c.if-ne.false)))
