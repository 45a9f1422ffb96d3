-- `store_strict`: accepted, the bits of the value that fits are stored in bounds. Assumes nothing.
use native.Mathlib.Omega.{arith}
use mathlib.Core.Path.{refl}
use Rattle.std.proofs.lemmas.List.{length-map}
use Rattle.rules.proofs.Refusals.Accepted.{fine_strict}
use Rattle.rules.proofs.Refusals.OneAnswer.{accepted, declined, gives_passed}
use Rattle.laws.proofs.Fields.FieldCalls.{strict_refused, strict_done}
use Rattle.field.proofs.store_strict.Goals as goal

pub bits-v-requires : goal.bits-v-requires
bits-v-requires g c =
    let f = accepted (rw (c.WIDTH.ensures, g.met.T.Word.wide) at c.check_store_strict.ensures) c.in_ok-check_store_strict.was in
    let v = (fine_strict g.row.W _ _ _ _ _ f).fitted.valued in
    let z = v.sized in
    (omega arith, omega arith, v.integer)

pub store_by-requires : goal.store_by-requires
store_by-requires g c =
    let f = accepted (rw (c.WIDTH.ensures, g.met.T.Word.wide) at c.check_store_strict.ensures) c.in_ok-check_store_strict.was in
    let h = fine_strict g.row.W _ _ _ _ _ f in
    let i = h.lies in
    let z = h.fitted.valued.sized in
    (i.starts, omega arith, omega arith, i.ends)

pub returns-in_err-check_store_strict : goal.returns-in_err-check_store_strict
returns-in_err-check_store_strict g c =
    let f = declined (rw (c.WIDTH.ensures, g.met.T.Word.wide) at c.check_store_strict.ensures) c.in_err-check_store_strict.was in
    gives_passed _ _ c.from_residual.ensures.1 (strict_refused g.row.W _ _ _ _ _ _ (rw length-map f) refl)

pub returns : goal.returns
returns g c =
    let f = accepted (rw (c.WIDTH.ensures, g.met.T.Word.wide) at c.check_store_strict.ensures) c.in_ok-check_store_strict.was in
    strict_done g.row.W _ _ _ _ _ _ (rw length-map f) g.met.T.Word.some (fine_strict g.row.W _ _ _ _ _ f).fitted.valued.sized.fitting _ c.bits-v.ensures c.store_by.ensures
