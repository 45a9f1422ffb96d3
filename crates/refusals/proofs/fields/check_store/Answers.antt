-- `check_store`: what a load is refused for, or the row that follows. Assumes nothing.
use mathlib.Core.Path.{sym, ◌∙◌}
use native.Mathlib.Omega.{arith}
use Rattle.rules.proofs.Refusals.Accepted.{fine_load}
use Rattle.laws.proofs.Fields.FieldCalls.{store_stops, store_refused_8, store_fine}
use Rattle.rules.proofs.Refusals.OneAnswer.{accepted, declined, judges, judges_passed}
use Rattle.refusals.proofs.fields.check_store.Goals as goal

pub is_integer-requires : goal.is_integer-requires
is_integer-requires c = let z = (fine_load _ _ _ _ (accepted c.check_load.ensures c.in_ok-check_load.was)).sized in (omega arith, z.size)

pub returns-in_err-check_load : goal.returns-in_err-check_load
returns-in_err-check_load c = judges_passed c.from_residual.ensures.1 (store_stops _ _ _ _ _ _ (declined c.check_load.ensures c.in_err-check_load.was))

pub returns-then-is_integer : goal.returns-then-is_integer
returns-then-is_integer c =
    judges (sym (store_fine _ _ _ _ _ _ (accepted c.check_load.ensures c.in_ok-check_load.was) (sym c.is_integer.ensures ∙ c.if-is_integer.true)))

pub returns : goal.returns
returns c =
    judges (sym (store_refused_8 _ _ _ _ _ _ (accepted c.check_load.ensures c.in_ok-check_load.was) (sym c.is_integer.ensures ∙ c.if-is_integer.false)))
