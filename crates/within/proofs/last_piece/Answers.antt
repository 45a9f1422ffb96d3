-- `last_piece` puts what it fetched, from a word's start on.
use mathlib.Core.Path.{ap, ◌∙◌}
use Prim.Native.Nat.{ℕ, ◌+◌, ◌*◌, ◌/◌, ◌%◌}
use native.Mathlib.Omega.{arith}
use Rattle.std.specs.Prelude.{map}
use Rattle.rules.specs.Bits.{bit_n}
use Rattle.rules.specs.Positions.{row, position, spliced}
use Rattle.rules.specs.Rows.{moved}
use Rattle.rules.proofs.Rows.Splice.{splice_eq}
use Rattle.laws.proofs.Words.Typed.{row_below}
use Rattle.laws.proofs.Rows.Scratch.{moved_none}
use Rattle.within.proofs.last_piece.Goals as goal

pub returns-then-n-eq0 : goal.returns-then-n-eq0
returns-then-n-eq0 g c =
    let a = c.args in
    let W = g.row.W in
    let v = g.T.Word.value in
    let m = g.met.T.Word in
    let ws = map v a.words.now in
    moved_none W m.some a.order ws a.from a.to a.n c.if-n-eq0.true (row_below v W m.below a.words.now)

pub returns : goal.returns
unfolding moved
returns g c =
    let a = c.args in
    let W = g.row.W in
    let v = g.T.Word.value in
    let m = g.met.T.Word in
    let ws = map v a.words.now in
    let at = a.to / W * W in
    let z = c.requires.0 (omega arith) in
    let row_from : ℕ → ℕ = λ i. row W a.order ws (a.from + i) in
    c.put.ensures
    ∙ splice_eq W m.some a.order ws at a.n (λ i. bit_n (v c.fetch-v.result) (position W a.order (at % W + i))) row_from c.fetch-v.ensures
    ∙ ap (λ (x : ℕ). spliced W a.order ws x a.n row_from) (omega (arith, z))
