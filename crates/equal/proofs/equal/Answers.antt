-- `equal` refuses by its table, and else answers by the lengths and the bits.
use mathlib.Core.Path.{refl, ◌∙◌}
use native.Mathlib.Omega.{arith}
use Rattle.std.specs.Prelude.{map}
use Rattle.std.proofs.lemmas.List.{length-map}
use Rattle.rules.proofs.Refusals.Accepted.{fine_pair}
use Rattle.rules.proofs.Refusals.OneAnswer.{accepted, declined, says_passed}
use Rattle.laws.proofs.Rows.RowCalls.{start_in, may_start, equal_refused, equal_lengths, equal_bits}
use Rattle.equal.proofs.equal.Goals as goal

pub start-p-requires : goal.start-p-requires
start-p-requires g c =
    let f = accepted (rw (c.WIDTH.ensures, g.met.T.Word.wide) at c.check_pair.ensures) c.in_ok-check_pair.was in
    may_start g.row.W _ _ (fine_pair g.row.W _ _ _ _ f).left g.met.T.Word.most

pub start-q-requires : goal.start-q-requires
start-q-requires g c =
    let f = accepted (rw (c.WIDTH.ensures, g.met.T.Word.wide) at c.check_pair.ensures) c.in_ok-check_pair.was in
    may_start g.row.W _ _ (fine_pair g.row.W _ _ _ _ f).right g.met.T.Word.most

pub equal_row-requires : goal.equal_row-requires
equal_row-requires g c =
    let f = accepted (rw (c.WIDTH.ensures, g.met.T.Word.wide) at c.check_pair.ensures) c.in_ok-check_pair.was in
    let h = fine_pair g.row.W _ _ _ _ f in
    let l = h.left in
    let r = h.right in
    let here = start_in g.row.W _ _ l c.start-p.ensures.0 in
    let there = start_in g.row.W _ _ r c.start-q.ensures.0 in omega arith

pub returns-in_err-check_pair : goal.returns-in_err-check_pair
returns-in_err-check_pair g c =
    let f = declined (rw (c.WIDTH.ensures, g.met.T.Word.wide) at c.check_pair.ensures) c.in_err-check_pair.was in
    says_passed _ _ _ c.from_residual.ensures.1 ∙ equal_refused g.row.W _ _ _ _ _ (rw (length-map, length-map) f)

pub returns-then-left_span-right_span : goal.returns-then-left_span-right_span
returns-then-left_span-right_span g c =
    let a = c.args in
    let f = accepted (rw (c.WIDTH.ensures, g.met.T.Word.wide) at c.check_pair.ensures) c.in_ok-check_pair.was in
    equal_lengths g.row.W (map g.T.Word.value a.left.now) a.left_span (map g.T.Word.value a.right.now) a.right_span (rw (length-map, length-map) f) c.if-left_span-right_span.true

pub returns : goal.returns
returns g c =
    let a = c.args in
    let f = accepted (rw (c.WIDTH.ensures, g.met.T.Word.wide) at c.check_pair.ensures) c.in_ok-check_pair.was in
    equal_bits g.row.W (map g.T.Word.value a.left.now) a.left_span (map g.T.Word.value a.right.now) a.right_span _ (rw (length-map, length-map) f) (omega arith) refl
    (rw (c.start-p.ensures.0, c.start-q.ensures.0) at c.equal_row.ensures)
