-- `swap::piece` puts a word of each side into the other.
use Prim.Native.Nat.{◌+◌}
use native.Mathlib.Omega.{arith}
use Rattle.std.specs.Prelude.{map}
use Rattle.rules.specs.Positions.{row}
use Rattle.laws.proofs.Rows.Part.{none_put}
use Rattle.laws.proofs.Rows.InPlace.{near_put}
use Rattle.laws.proofs.Words.Typed.{row_below}
use Rattle.swap.proofs.piece.Goals as goal

pub returns-then-n-eq0 : goal.returns-then-n-eq0
returns-then-n-eq0 g c =
    let a = c.args in
    let w = g.row.W in
    let m = g.met.T.Word in
    let v = g.T.Word.value in
    let ws = map v a.left.now in
    let vs = map v a.right.now in (
      none_put w m.some a.order ws a.d (λ i. row w a.order vs (a.s + i)) a.n c.if-n-eq0.true (row_below v w m.below a.left.now),
      none_put w m.some a.order vs a.s (λ i. row w a.order ws (a.d + i)) a.n c.if-n-eq0.true (row_below v w m.below a.right.now),
    )

pub returns : goal.returns
returns g c =
    let a = c.args in
    let w = g.row.W in
    let pos = g.met.T.Word.some in
    let ws = map g.T.Word.value a.left.now in
    let vs = map g.T.Word.value a.right.now in (
      near_put w pos a.order ws vs a.d a.s a.n (omega arith) (omega arith) (rw c.read-y.ensures at c.put.ensures),
      near_put w pos a.order vs ws a.s a.d a.n (omega arith) (omega arith) (rw c.read-x.ensures at c.put-2.ensures),
    )
