-- `copy::first_piece` puts the bits in either order.
use Prim.Native.Nat.{◌+◌}
use Rattle.std.specs.Prelude.{map}
use Rattle.laws.proofs.Words.Typed.{row_below}
use Rattle.rules.specs.Positions.{row}
use Rattle.laws.proofs.Rows.Part.{none_put}
use Rattle.copy.proofs.first_piece.Goals as goal

pub returns-then-n-eq0 : goal.returns-then-n-eq0
returns-then-n-eq0 g c =
    let a = c.args in
    let w = g.row.W in
    let m = g.met.T.Word in
    let v = g.T.Word.value in
    none_put w m.some a.order (map v a.words.now) a.d (λ i. row w a.order (map v a.source.now) (a.s + i)) a.n c.if-n-eq0.true
    (row_below v w m.below a.words.now)
