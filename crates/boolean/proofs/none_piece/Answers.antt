-- `none_piece`: a right side of 0.
use mathlib.Core.Path.{ap, ◌∙◌}
use Prim.Native.Nat.{ℕ, ◌+◌, ◌%◌}
use native.Mathlib.Nat.{zero-mod}
use Rattle.std.specs.Prelude.{map}
use Rattle.rules.specs.Bits.{bit_n}
use Rattle.rules.specs.Positions.{row, position}
use Rattle.rules.specs.Rows.{applied}
use Rattle.rules.proofs.Bits.Bit.{bit_of_zero}
use Rattle.rules.proofs.Rows.Splice.{splice_eq}
use Rattle.laws.proofs.Words.Typed.{row_below}
use Rattle.laws.proofs.Rows.Part.{none_put}
use Rattle.boolean.proofs.none_piece.Goals as goal

pub returns-then-n-eq0 : goal.returns-then-n-eq0
returns-then-n-eq0 g c =
    let a = c.args in
    let W = g.row.W in
    let w = g.T.Word in
    let m = g.met.T.Word in
    let ws = map w.value a.words.now in
    none_put W m.some a.order ws a.d (λ i. applied a.operation (row W a.order ws (a.d + i)) 0) a.n c.if-n-eq0.true (row_below w.value W m.below a.words.now)

pub returns : goal.returns
returns g c =
    let a = c.args in
    let W = g.row.W in
    let ws = map g.T.Word.value a.words.now in
    let left = λ (i : ℕ). applied a.operation (row W a.order ws (a.d + i)) in
    c.piece.ensures
    ∙ splice_eq W g.met.T.Word.some a.order ws a.d a.n (λ i. left i (bit_n (g.T.Word.value c.of.result) (position W a.order (a.d % W + i)))) (λ i. left i 0)
    (λ i l. ap (left i) (ap (λ (x : ℕ). bit_n x (position W a.order (a.d % W + i))) (c.of.ensures ∙ zero-mod _) ∙ bit_of_zero (position W a.order (a.d % W + i))))
