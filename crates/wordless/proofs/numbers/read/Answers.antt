-- `read`: the check decides, a mask leaves the low bits, and their number is the leaf's.
use mathlib.Core.Path.{refl, ap, ◌∙◌}
use native.Mathlib.Omega.{arith}
use native.Mathlib.Nat.{mod-lt}
use lib.Pow.{pow_pos}
use Rattle.rules.specs.Fields.{read_as}
use Rattle.rules.specs.Calls.{a_number, read_answer}
use Rattle.rules.proofs.Refusals.Accepted.{fine_sized}
use Rattle.rules.proofs.Refusals.OneAnswer.{accepted, declined, said_passed, said_fine}
use Rattle.rules.proofs.Refusals.Wordless.{low_part}
use Rattle.wordless.proofs.numbers.read.Goals as goal

pub low_ones-requires : goal.low_ones-requires
low_ones-requires c =
    let s = fine_sized _ _ (accepted c.check_field.ensures c.in_ok-check_field.was) in omega arith

pub of_bits-requires : goal.of_bits-requires
of_bits-requires c =
    let s = fine_sized _ _ (accepted c.check_field.ensures c.in_ok-check_field.was) in (omega arith, omega arith, rw (low_part _ refl c.low_ones.ensures) (mod-lt _ (pow_pos _)))

pub returns-in_err-check_field : goal.returns-in_err-check_field
unfolding read_answer
returns-in_err-check_field c = said_passed _ _ _ c.from_residual.ensures.1 (declined c.check_field.ensures c.in_err-check_field.was)

pub returns : goal.returns
unfolding read_answer
returns c =
    let a = c.args in said_fine (accepted c.check_field.ensures c.in_ok-check_field.was) (ap a_number (c.of_bits.ensures ∙ ap (read_as a.sign a.len) (low_part _ refl c.low_ones.ensures)))
