-- `first_in_row`: the first word's piece settles it, or has none and the rest settles it. Assumes nothing.
use native.Mathlib.Omega.{arith}
use Prim.Native.Nat.{◌+◌, ◌-◌, ◌*◌}
use Rattle.std.specs.Prelude.{map}
use Rattle.laws.proofs.Searches.RowSearch.{first_sooner, first_at_most, first_further}
use Rattle.search.proofs.forward.first_in_row.Goals as goal

pub returns-then-r-t : goal.returns-then-r-t
returns-then-r-t g c =
    first_sooner c.least-t.result _ _ _ c.first_in_word-r.result (omega arith) c.first_in_word-r.ensures (omega arith)

pub overflow_add-result : goal.overflow_add-result
overflow_add-result g c = omega (arith, first_at_most _ _ _ c.first_further.ensures)

pub overflow_add-result-else-sought : goal.overflow_add-result-else-sought
overflow_add-result-else-sought g c = omega (arith, first_at_most _ _ _ c.first_further-else-sought.ensures)

pub returns-then-sought : goal.returns-then-sought
returns-then-sought g c =
    let s = c.args.span in
    let ws = map g.T.Word.value c.args.words.now in
    let t = c.least-t.result in
    first_further g.row.W s.order ws c.args.sought (s.word * g.row.W + s.head.0) s.len t (s.len - t) ((s.word + 1) * g.row.W)
    c.first_in_word-r.ensures c.if-r-t.false (omega arith) (omega arith) c.if-sought.true c.first_further.ensures

pub returns-else-sought : goal.returns-else-sought
returns-else-sought g c =
    let s = c.args.span in
    let ws = map g.T.Word.value c.args.words.now in
    let t = c.least-t.result in
    first_further g.row.W s.order ws c.args.sought (s.word * g.row.W + s.head.0) s.len t (s.len - t) ((s.word + 1) * g.row.W)
    c.first_in_word-r.ensures c.if-r-t.false (omega arith) (omega arith) c.if-sought.false c.first_further-else-sought.ensures
