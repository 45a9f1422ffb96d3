-- `copy::copy_from` refuses by its table, and else copies the row of one span to that of the other.
use mathlib.Core.Path.{refl}
use native.Mathlib.Omega.{arith}
use Rattle.std.specs.Prelude.{map}
use Rattle.std.proofs.lemmas.List.{length-map}
use Rattle.rules.proofs.Refusals.Accepted.{fine_copy}
use Rattle.laws.proofs.Rows.RowCalls.{start_in, may_start, copy_refused, copy_done}
use Rattle.rules.proofs.Refusals.OneAnswer.{accepted, declined, gives_passed}
use Rattle.copy.proofs.copy_from.Goals as goal

pub start-d-requires : goal.start-d-requires
start-d-requires g c =
    let f = accepted (rw (c.WIDTH.ensures, g.met.T.Word.wide) at c.check_copy.ensures) c.in_ok-check_copy.was in
    may_start g.row.W _ _ (fine_copy g.row.W _ _ _ _ f).pair.left g.met.T.Word.most

pub start-s-requires : goal.start-s-requires
start-s-requires g c =
    let f = accepted (rw (c.WIDTH.ensures, g.met.T.Word.wide) at c.check_copy.ensures) c.in_ok-check_copy.was in
    may_start g.row.W _ _ (fine_copy g.row.W _ _ _ _ f).pair.right g.met.T.Word.most

pub copy_row-requires : goal.copy_row-requires
copy_row-requires g c =
    let f = accepted (rw (c.WIDTH.ensures, g.met.T.Word.wide) at c.check_copy.ensures) c.in_ok-check_copy.was in
    let h = fine_copy g.row.W _ _ _ _ f in
    let p = h.pair in
    let l = p.left in
    let r = p.right in
    let to = start_in g.row.W _ _ l c.start-d.ensures.0 in
    let from = start_in g.row.W _ _ r c.start-s.ensures.0 in omega arith

pub returns-in_err-check_copy : goal.returns-in_err-check_copy
returns-in_err-check_copy g c =
    let f = declined (rw (c.WIDTH.ensures, g.met.T.Word.wide) at c.check_copy.ensures) c.in_err-check_copy.was in
    gives_passed _ _ c.from_residual.ensures.1 (copy_refused g.row.W _ _ _ _ _ (rw (length-map, length-map) f) refl)

pub returns : goal.returns
returns g c =
    let a = c.args in
    let f = accepted (rw (c.WIDTH.ensures, g.met.T.Word.wide) at c.check_copy.ensures) c.in_ok-check_copy.was in
    copy_done g.row.W (map g.T.Word.value a.words.now) a.span (map g.T.Word.value a.source.now) a.source_span (rw (length-map, length-map) f)
    (rw (c.start-d.ensures.0, c.start-s.ensures.0) at c.copy_row.ensures)
