-- `first_in_word`: the first one of the masked word, or none. Assumes nothing.
use native.Mathlib.Omega.{arith}
use Rattle.std.specs.Prelude.{map}
use Rattle.laws.proofs.Searches.WordSearch.{first_past, first_some, first_none, first_of_none}
use Rattle.search.proofs.forward.first_in_word.Goals as goal

pub returns-then-n-eq0 : goal.returns-then-n-eq0
returns-then-n-eq0 g c = first_of_none _ _ _ (omega arith)

pub overflow_sub-result : goal.overflow_sub-result
overflow_sub-result g c =
    let a = c.args in
    omega (arith, first_past g.row.W a.order (map g.T.Word.value a.words.now) a.sought a.k a.head.0 a.n (omega arith) c.sought_in.ensures c.zeros_end-r.result.0 c.zeros_end-r.ensures (omega arith))

pub returns-then-r : goal.returns-then-r
returns-then-r g c =
    let a = c.args in
    first_some g.row.W a.order (map g.T.Word.value a.words.now) a.sought a.k a.head.0 a.n (omega arith) c.sought_in.ensures c.zeros_end-r.result.0 c.zeros_end-r.ensures (omega arith)

pub returns-else-r : goal.returns-else-r
returns-else-r g c =
    let a = c.args in
    first_none g.row.W a.order (map g.T.Word.value a.words.now) a.sought a.k a.head.0 a.n (omega arith) c.sought_in.ensures c.zeros_end-r.result.0 c.zeros_end-r.ensures (omega arith)
