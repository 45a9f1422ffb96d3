-- `copy::bits` puts what it fetched: the bits that the fetched word carries.
use mathlib.Core.Path.{◌∙◌}
use Prim.Native.Nat.{◌+◌, ◌%◌}
use Rattle.std.specs.Prelude.{map}
use Rattle.rules.specs.Bits.{bit_n}
use Rattle.rules.specs.Positions.{row, position}
use Rattle.rules.proofs.Rows.Splice.{splice_eq}
use Rattle.copy.proofs.bits.Goals as goal

pub returns : goal.returns
returns g c =
    let a = c.args in
    let v = g.T.Word.value in
    c.put.ensures
    ∙ splice_eq g.row.W g.met.T.Word.some a.order (map v a.words.now) a.d a.n (λ i. bit_n (v c.fetch-v.result) (position g.row.W a.order (a.d % g.row.W + i)))
    (λ i. row g.row.W a.order (map v a.source.now) (a.s + i)) c.fetch-v.ensures
