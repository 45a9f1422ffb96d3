-- `piece` puts the operation's word: its bits are those of the pairs.
use mathlib.Core.Path.{refl}
use Prim.Native.Nat.{◌+◌, ◌%◌}
use native.Mathlib.Omega.{arith}
use Rattle.std.specs.Prelude.{map}
use Rattle.rules.specs.Bits.{bit_n}
use Rattle.rules.specs.Positions.{position}
use Rattle.laws.proofs.Words.Combine.{piece_combined}
use Rattle.boolean.proofs.piece.Goals as goal

pub returns : goal.returns
returns g c =
    let a = c.args in
    let W = g.row.W in
    let v = g.T.Word.value in
    piece_combined W g.met.T.Word.some a.order (map v a.words.now) a.d a.operation (λ i. bit_n (v a.v) (position W a.order (a.d % W + i))) a.n (v a.v) (v c.apply-x.result) (omega arith)
    (rw c.read.ensures at c.apply-x.ensures) (λ i l. refl) c.put.ensures
