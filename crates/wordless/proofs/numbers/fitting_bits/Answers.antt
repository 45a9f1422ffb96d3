-- `fitting_bits`: as `low_bits`, behind the table with refusal 9.
use mathlib.Core.Path.{refl, ap, ◌∙◌}
use native.Mathlib.Omega.{arith}
use Prim.Native.Nat.{ℕ}
use lib.IntN.{pos}
use Rattle.rules.specs.Calls.{a_number, fitting_answer}
use Rattle.rules.proofs.Bits.Bit.{same_low}
use Rattle.rules.proofs.Refusals.Accepted.{fine_fitted}
use Rattle.rules.proofs.Refusals.OneAnswer.{accepted, declined, said_passed, said_fine}
use Rattle.rules.proofs.Refusals.Wordless.{low_part}
use Rattle.wordless.proofs.numbers.fitting_bits.Goals as goal

pub bits-requires : goal.bits-requires
bits-requires c =
    let v = (fine_fitted _ _ _ _ (accepted c.check_fit.ensures c.in_ok-check_fit.was)).valued in let s = v.sized in (omega arith, omega arith, v.integer)

pub low_ones-requires : goal.low_ones-requires
low_ones-requires c =
    let v = (fine_fitted _ _ _ _ (accepted c.check_fit.ensures c.in_ok-check_fit.was)).valued in let s = v.sized in omega arith

pub returns-in_err-check_fit : goal.returns-in_err-check_fit
unfolding fitting_answer
returns-in_err-check_fit c = said_passed _ _ _ c.from_residual.ensures.1 (declined c.check_fit.ensures c.in_err-check_fit.was)

pub returns : goal.returns
unfolding fitting_answer
returns c =
    said_fine (accepted c.check_fit.ensures c.in_ok-check_fit.was) (ap (λ (u : ℕ). a_number (pos u)) (low_part _ refl c.low_ones.ensures ∙ same_low _ _ _ ((fine_fitted _ _ _ _ (accepted c.check_fit.ensures c.in_ok-check_fit.was)).valued).sized.fitting c.bits.ensures))
