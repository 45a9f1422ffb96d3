-- `table` picks for each pair of bits one of the four of the truth table.
use Rattle.laws.proofs.Words.Combine.{table_word}
use Rattle.combine.proofs.table.Goals as goal

pub returns : goal.returns
returns g c =
    let a = c.args in
    let v = g.T.Word.value in
    table_word g.row.W a.operation (v a.a) (v a.b) _ _ _ _ _ _
    c.spread-t0.ensures c.spread-t1.ensures c.spread-t2.ensures c.spread-t3.ensures (rw c.number.ensures at c.select-low.ensures) (rw c.number.ensures at c.select-high.ensures)
    (rw c.number-2.ensures at c.select.ensures)
