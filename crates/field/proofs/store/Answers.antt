-- `store`: accepted, the low bits of the value are stored in bounds. Assumes nothing.
use native.Mathlib.Omega.{arith}
use mathlib.Core.Path.{refl}
use Rattle.std.proofs.lemmas.List.{length-map}
use Rattle.rules.proofs.Refusals.Accepted.{fine_store}
use Rattle.rules.proofs.Refusals.OneAnswer.{accepted, declined, gives_passed}
use Rattle.laws.proofs.Fields.FieldCalls.{store_refused, store_done}
use Rattle.field.proofs.store.Goals as goal

pub bits-v-requires : goal.bits-v-requires
bits-v-requires g c =
    let f = accepted (rw (c.WIDTH.ensures, g.met.T.Word.wide) at c.check_store.ensures) c.in_ok-check_store.was in
    let v = (fine_store g.row.W _ _ _ _ _ f).valued in
    let z = v.sized in
    (omega arith, omega arith, v.integer)

pub store_by-requires : goal.store_by-requires
store_by-requires g c =
    let f = accepted (rw (c.WIDTH.ensures, g.met.T.Word.wide) at c.check_store.ensures) c.in_ok-check_store.was in
    let h = fine_store g.row.W _ _ _ _ _ f in
    let i = h.lies in
    let z = h.valued.sized in
    (i.starts, omega arith, omega arith, i.ends)

pub returns-in_err-check_store : goal.returns-in_err-check_store
returns-in_err-check_store g c =
    let f = declined (rw (c.WIDTH.ensures, g.met.T.Word.wide) at c.check_store.ensures) c.in_err-check_store.was in
    gives_passed _ _ c.from_residual.ensures.1 (store_refused g.row.W _ _ _ _ _ _ (rw length-map f) refl)

pub returns : goal.returns
returns g c =
    let f = accepted (rw (c.WIDTH.ensures, g.met.T.Word.wide) at c.check_store.ensures) c.in_ok-check_store.was in
    store_done g.row.W _ _ _ _ _ _ (rw length-map f) g.met.T.Word.some (fine_store g.row.W _ _ _ _ _ f).valued.sized.fitting _ c.bits-v.ensures c.store_by.ensures
