-- `copy_within` refuses by its table, and else moves the bits of the row.
use mathlib.Core.Path.{refl}
use native.Mathlib.Nat.{mul-le-mul}
use native.Mathlib.Omega.{arith}
use Rattle.std.specs.Prelude.{map}
use Rattle.std.proofs.lemmas.List.{length-map}
use Rattle.rules.proofs.Refusals.Accepted.{fine_move}
use Rattle.rules.proofs.Refusals.OneAnswer.{accepted, declined, gives_passed}
use Rattle.laws.proofs.Rows.RowCalls.{start_in, may_start, within_refused, within_done}
use Rattle.within.proofs.copy_within.Goals as goal

pub start-base-requires : goal.start-base-requires
start-base-requires g c =
    let f = accepted (rw (c.WIDTH.ensures, g.met.T.Word.wide) at c.check_copy_within.ensures) c.in_ok-check_copy_within.was in
    may_start g.row.W _ _ (fine_move g.row.W _ _ _ _ _ f).lies g.met.T.Word.most

pub overflow_add-base : goal.overflow_add-base
overflow_add-base g c =
    let f = accepted (rw (c.WIDTH.ensures, g.met.T.Word.wide) at c.check_copy_within.ensures) c.in_ok-check_copy_within.was in
    let h = fine_move g.row.W _ _ _ _ _ f in
    let l = h.lies in
    let at = start_in g.row.W _ _ l c.start-base.ensures.0 in omega (arith, mul-le-mul l.few g.met.T.Word.most)

pub overflow_add-base-2 : goal.overflow_add-base-2
overflow_add-base-2 g c =
    let f = accepted (rw (c.WIDTH.ensures, g.met.T.Word.wide) at c.check_copy_within.ensures) c.in_ok-check_copy_within.was in
    let h = fine_move g.row.W _ _ _ _ _ f in
    let l = h.lies in
    let at = start_in g.row.W _ _ l c.start-base.ensures.0 in omega (arith, mul-le-mul l.few g.met.T.Word.most)

pub move_row-requires : goal.move_row-requires
move_row-requires g c =
    let f = accepted (rw (c.WIDTH.ensures, g.met.T.Word.wide) at c.check_copy_within.ensures) c.in_ok-check_copy_within.was in
    let h = fine_move g.row.W _ _ _ _ _ f in
    let l = h.lies in
    let at = start_in g.row.W _ _ l c.start-base.ensures.0 in omega arith

pub returns-in_err-check_copy_within : goal.returns-in_err-check_copy_within
returns-in_err-check_copy_within g c =
    let f = declined (rw (c.WIDTH.ensures, g.met.T.Word.wide) at c.check_copy_within.ensures) c.in_err-check_copy_within.was in
    gives_passed _ _ c.from_residual.ensures.1 (within_refused g.row.W _ _ _ _ _ _ (simp length-map f) refl)

pub returns : goal.returns
returns g c =
    let a = c.args in
    let f = accepted (rw (c.WIDTH.ensures, g.met.T.Word.wide) at c.check_copy_within.ensures) c.in_ok-check_copy_within.was in
    within_done g.row.W (map g.T.Word.value a.words.now) a.span a.start a.count a.destination (simp length-map f) (rw c.start-base.ensures.0 at c.move_row.ensures)
