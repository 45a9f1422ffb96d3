-- `differ_piece` compares under a mask what it fetched.
use native.Mathlib.Omega.{arith}
use Rattle.std.specs.Prelude.{map}
use Rattle.laws.proofs.Words.Typed.{row_below}
use Rattle.laws.proofs.Words.Agree.{piece_differs}
use Rattle.equal.proofs.differ_piece.Goals as goal

pub returns : goal.returns
returns g c =
    let a = c.args in
    let w = g.T.Word in
    let m = g.met.T.Word in
    rw (c.under.ensures, c.xor.ensures, c.read.ensures)
    (piece_differs g.row.W m.some a.order (map w.value a.left.now) (map w.value a.right.now) a.p a.q a.n (w.value c.fetch-v.result) c.mask.result.0 (omega arith)
    (row_below w.value g.row.W m.below a.left.now) (m.below c.fetch-v.result) c.fetch-v.ensures c.mask.ensures)
