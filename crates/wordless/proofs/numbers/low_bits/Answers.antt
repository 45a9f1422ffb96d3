-- `low_bits`: the check decides, and a mask leaves the low bits.
use mathlib.Core.Path.{refl, ap, ◌∙◌}
use native.Mathlib.Omega.{arith}
use Prim.Native.Nat.{ℕ}
use lib.IntN.{pos}
use Rattle.rules.specs.Calls.{a_number, low_bits_answer}
use Rattle.rules.proofs.Bits.Bit.{same_low}
use Rattle.rules.proofs.Refusals.Accepted.{fine_valued}
use Rattle.rules.proofs.Refusals.OneAnswer.{accepted, declined, said_passed, said_fine}
use Rattle.rules.proofs.Refusals.Wordless.{low_part}
use Rattle.wordless.proofs.numbers.low_bits.Goals as goal

pub bits-requires : goal.bits-requires
bits-requires c =
    let v = fine_valued _ _ _ _ (accepted c.check_value.ensures c.in_ok-check_value.was) in let s = v.sized in (omega arith, omega arith, v.integer)

pub low_ones-requires : goal.low_ones-requires
low_ones-requires c =
    let v = fine_valued _ _ _ _ (accepted c.check_value.ensures c.in_ok-check_value.was) in let s = v.sized in omega arith

pub returns-in_err-check_value : goal.returns-in_err-check_value
unfolding low_bits_answer
returns-in_err-check_value c = said_passed _ _ _ c.from_residual.ensures.1 (declined c.check_value.ensures c.in_err-check_value.was)

pub returns : goal.returns
unfolding low_bits_answer
returns c =
    said_fine (accepted c.check_value.ensures c.in_ok-check_value.was) (ap (λ (u : ℕ). a_number (pos u)) (low_part _ refl c.low_ones.ensures ∙ same_low _ _ _ (fine_valued _ _ _ _ (accepted c.check_value.ensures c.in_ok-check_value.was)).sized.fitting c.bits.ensures))
