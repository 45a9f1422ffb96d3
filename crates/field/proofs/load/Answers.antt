-- `load`: accepted, the bits are in bounds, and their number is read by its sign. Assumes nothing.
use native.Mathlib.Omega.{arith}
use mathlib.Core.Path.{◌∙◌}
use lib.Pow.{pow_pos, pow_mono}
use Rattle.std.proofs.lemmas.List.{length-map}
use Rattle.rules.proofs.Refusals.Accepted.{fine_load}
use Rattle.rules.proofs.Refusals.OneAnswer.{accepted, declined, says_passed}
use Rattle.laws.proofs.Fields.FieldCalls.{load_refused, load_done}
use Rattle.field.proofs.load.Goals as goal

pub load_by-u-requires : goal.load_by-u-requires
load_by-u-requires g c =
    let f = accepted (rw (c.WIDTH.ensures, g.met.T.Word.wide) at c.check_load.ensures) c.in_ok-check_load.was in
    let h = fine_load g.row.W _ _ _ f in
    let i = h.lies in
    let z = h.sized in
    (i.starts, omega arith, omega arith, i.ends)

pub of_bits-requires : goal.of_bits-requires
of_bits-requires g c =
    let f = accepted (rw (c.WIDTH.ensures, g.met.T.Word.wide) at c.check_load.ensures) c.in_ok-check_load.was in
    let z = (fine_load g.row.W _ _ _ f).sized in
    (omega arith, omega arith, omega (arith, c.load_by-u.ensures.1, pow_pos c.args.span.len, pow_mono z.fitting))

pub returns-in_err-check_load : goal.returns-in_err-check_load
returns-in_err-check_load g c =
    let f = declined (rw (c.WIDTH.ensures, g.met.T.Word.wide) at c.check_load.ensures) c.in_err-check_load.was in
    says_passed _ _ _ c.from_residual.ensures.1 ∙ load_refused g.row.W _ _ _ _ _ (rw length-map f)

pub returns : goal.returns
returns g c =
    let f = accepted (rw (c.WIDTH.ensures, g.met.T.Word.wide) at c.check_load.ensures) c.in_ok-check_load.was in
    load_done g.row.W _ _ _ _ _ (rw length-map f) c.of_bits.result c.of_bits.ensures c.load_by-u.ensures.0
