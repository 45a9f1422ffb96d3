-- `last_in_word`: the last one of the masked word, or none. Assumes nothing.
use native.Mathlib.Omega.{arith}
use Rattle.std.specs.Prelude.{map}
use Rattle.laws.proofs.Searches.WordSearch.{last_past, last_some, last_none, last_of_none}
use Rattle.search.proofs.backward.last_in_word.Goals as goal

pub returns-then-n-eq0 : goal.returns-then-n-eq0
returns-then-n-eq0 g c = last_of_none _ _ _ (omega arith)

pub overflow_sub-result : goal.overflow_sub-result
overflow_sub-result g c =
    let a = c.args in
    omega (arith, last_past g.row.W a.order (map g.T.Word.value a.words.now) a.sought a.k a.head.0 a.n (omega arith) c.sought_in.ensures c.last_end-r.result.0 c.last_end-r.ensures (omega arith))

pub returns-then-r-eq0 : goal.returns-then-r-eq0
returns-then-r-eq0 g c =
    let a = c.args in
    last_none g.row.W a.order (map g.T.Word.value a.words.now) a.sought a.k a.head.0 a.n (omega arith) c.sought_in.ensures c.last_end-r.result.0 c.last_end-r.ensures (omega arith)

pub returns-else-r-eq0 : goal.returns-else-r-eq0
returns-else-r-eq0 g c =
    let a = c.args in
    last_some g.row.W a.order (map g.T.Word.value a.words.now) a.sought a.k a.head.0 a.n (omega arith) c.sought_in.ensures c.last_end-r.result.0 c.last_end-r.ensures (omega arith)
