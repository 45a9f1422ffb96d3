-- `first_piece` puts what it fetched: the bits that the fetched word carries.
use mathlib.Core.Path.{◌∙◌}
use Prim.Native.Nat.{◌+◌, ◌%◌}
use Rattle.std.specs.Prelude.{map}
use Rattle.rules.specs.Bits.{bit_n}
use Rattle.rules.specs.Positions.{row, position}
use Rattle.rules.specs.Rows.{moved}
use Rattle.rules.proofs.Rows.Splice.{splice_eq}
use Rattle.laws.proofs.Words.Typed.{row_below}
use Rattle.laws.proofs.Rows.Scratch.{moved_none}
use Rattle.within.proofs.first_piece.Goals as goal

pub returns-then-n-eq0 : goal.returns-then-n-eq0
returns-then-n-eq0 g c =
    let a = c.args in
    let W = g.row.W in
    let v = g.T.Word.value in
    let m = g.met.T.Word in
    let ws = map v a.words.now in
    moved_none W m.some a.order ws a.from a.to a.n c.if-n-eq0.true (row_below v W m.below a.words.now)

pub returns : goal.returns
unfolding moved
returns g c =
    let a = c.args in
    let W = g.row.W in
    let v = g.T.Word.value in
    let m = g.met.T.Word in
    let ws = map v a.words.now in
    c.put.ensures
    ∙ splice_eq W m.some a.order ws a.to a.n (λ i. bit_n (v c.fetch-v.result) (position W a.order (a.to % W + i))) (λ i. row W a.order ws (a.from + i))
    c.fetch-v.ensures
