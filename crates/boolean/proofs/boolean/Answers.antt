-- `boolean` refuses by its table, and else combines as many bits as both sides have and then the rest of the left with none.
use mathlib.Core.Path.{refl, ap}
use Prim.Native.Nat.{ℕ, ◌+◌, ◌*◌}
use native.Mathlib.Nat.{mul-le-mul}
use native.Mathlib.Omega.{arith}
use Rattle.std.specs.Prelude.{map}
use Rattle.std.proofs.lemmas.List.{length-map}
use Rattle.rules.specs.Positions.{row, start}
use Rattle.rules.proofs.Refusals.Accepted.{fine_pair}
use Rattle.rules.proofs.Refusals.OneAnswer.{accepted, declined, gives_passed}
use Rattle.laws.proofs.Words.Combine.{until, until_in, until_out, combined_short}
use Rattle.laws.proofs.Rows.RowCalls.{start_in, may_start, boolean_refused, boolean_done}
use Rattle.boolean.proofs.boolean.Goals as goal

pub start-d-requires : goal.start-d-requires
start-d-requires g c =
    let f = accepted (rw (c.WIDTH.ensures, g.met.T.Word.wide) at c.check_pair.ensures) c.in_ok-check_pair.was in
    may_start g.row.W _ _ (fine_pair g.row.W _ _ _ _ f).left g.met.T.Word.most

pub start-s-requires : goal.start-s-requires
start-s-requires g c =
    let f = accepted (rw (c.WIDTH.ensures, g.met.T.Word.wide) at c.check_pair.ensures) c.in_ok-check_pair.was in
    may_start g.row.W _ _ (fine_pair g.row.W _ _ _ _ f).right g.met.T.Word.most

pub between-requires : goal.between-requires
between-requires g c =
    let f = accepted (rw (c.WIDTH.ensures, g.met.T.Word.wide) at c.check_pair.ensures) c.in_ok-check_pair.was in
    let h = fine_pair g.row.W _ _ _ _ f in
    let l = h.left in
    let r = h.right in
    let to = start_in g.row.W _ _ l c.start-d.ensures.0 in
    let from = start_in g.row.W _ _ r c.start-s.ensures.0 in omega arith

pub overflow_add-d : goal.overflow_add-d
overflow_add-d g c =
    let f = accepted (rw (c.WIDTH.ensures, g.met.T.Word.wide) at c.check_pair.ensures) c.in_ok-check_pair.was in
    let l = (fine_pair g.row.W _ _ _ _ f).left in
    let to = start_in g.row.W _ _ l c.start-d.ensures.0 in omega (arith, mul-le-mul l.few g.met.T.Word.most)

pub rest-requires : goal.rest-requires
rest-requires g c =
    let f = accepted (rw (c.WIDTH.ensures, g.met.T.Word.wide) at c.check_pair.ensures) c.in_ok-check_pair.was in
    let l = (fine_pair g.row.W _ _ _ _ f).left in
    let to = start_in g.row.W _ _ l c.start-d.ensures.0 in
    let same = ap (λ (n : ℕ). n * g.row.W) c.between.auto.words in omega arith

pub returns-in_err-check_pair : goal.returns-in_err-check_pair
returns-in_err-check_pair g c =
    let f = declined (rw (c.WIDTH.ensures, g.met.T.Word.wide) at c.check_pair.ensures) c.in_err-check_pair.was in
    gives_passed _ _ c.from_residual.ensures.1 (boolean_refused g.row.W g.met.T.Word.some _ _ _ _ _ _ (simp length-map f) refl)

pub returns : goal.returns
returns g c =
    let a = c.args in
    let W = g.row.W in
    let v = g.T.Word.value in
    let pos = g.met.T.Word.some in
    let ws = map v a.words.now in
    let vs = map v a.right.now in
    let f = accepted (rw (c.WIDTH.ensures, g.met.T.Word.wide) at c.check_pair.ensures) c.in_ok-check_pair.was in
    let l = (fine_pair W _ _ _ _ f).left in
    let to = start W a.span in
    let from : ℕ → ℕ = λ i. row W a.span.order vs (start W a.right_span + i) in
    boolean_done W pos a.operation ws a.span vs a.right_span (until a.right_span.len from) (simp length-map f)
    (combined_short W pos a.span.order ws to a.operation a.span.len a.right_span.len c.least-m.result from c.least-m.ensures (rw length-map (start_in W _ _ l refl))
    (rw (c.start-d.ensures.0, c.start-s.ensures.0) at c.between.ensures) (rw c.start-d.ensures.0 at c.rest.ensures))
    (until_in a.right_span.len from) (until_out a.right_span.len from)
