-- `last_piece`: the fetched word carries the right side's bits, in either order, from a word's start on.
use mathlib.Core.Path.{sym, ap₂, ◌∙◌}
use Prim.Native.Nat.{ℕ, ◌+◌, ◌*◌, ◌/◌}
use native.Mathlib.Nat.{div-add-mod'}
use native.Mathlib.Omega.{arith}
use Rattle.std.specs.Prelude.{map}
use Rattle.rules.specs.declared.Order.{Order}
use Rattle.rules.specs.declared.Order.TheVariants.{Lsb0, Msb0}
use Rattle.rules.specs.Positions.{row, spliced}
use Rattle.rules.specs.Rows.{applied}
use Rattle.laws.proofs.Words.Typed.{row_below}
use Rattle.laws.proofs.Rows.Part.{none_put}
use Rattle.laws.proofs.Words.Combine.{piece_carried}
use Rattle.boolean.proofs.last_piece.Goals as goal

pub returns-then-n-eq0 : goal.returns-then-n-eq0
returns-then-n-eq0 g c =
    let a = c.args in
    let W = g.row.W in
    let w = g.T.Word in
    let m = g.met.T.Word in
    let ws = map w.value a.words.now in
    none_put W m.some a.order ws a.d (λ i. applied a.operation (row W a.order ws (a.d + i)) (row W a.order (map w.value a.right.now) (a.s + i))) a.n c.if-n-eq0.true
    (row_below w.value W m.below a.words.now)

pub returns-in-Lsb0 : goal.returns-in-Lsb0
returns-in-Lsb0 g c =
    let a = c.args in
    let W = g.row.W in
    let v = g.T.Word.value in
    let ws = map v a.words.now in
    let vs = map v a.right.now in
    let z = c.requires.0 (omega arith) in
    piece_carried W g.met.T.Word.some Lsb0 ws (a.d / W * W) a.operation (λ i. row W Lsb0 vs (a.s + i)) a.n (v c.fetch-v.result) c.fetch-v.ensures c.piece.ensures
    ∙ sym (ap₂ (λ (o : Order) (x : ℕ). spliced W o ws x a.n (λ i. applied a.operation (row W o ws (x + i)) (row W o vs (a.s + i)))) c.in-Lsb0.is (omega (arith, z, div-add-mod' a.d W)))

pub returns-in-Msb0 : goal.returns-in-Msb0
returns-in-Msb0 g c =
    let a = c.args in
    let W = g.row.W in
    let v = g.T.Word.value in
    let ws = map v a.words.now in
    let vs = map v a.right.now in
    let z = c.requires.0 (omega arith) in
    piece_carried W g.met.T.Word.some Msb0 ws (a.d / W * W) a.operation (λ i. row W Msb0 vs (a.s + i)) a.n (v c.fetch-v-in-Msb0.result) c.fetch-v-in-Msb0.ensures c.piece-in-Msb0.ensures
    ∙ sym (ap₂ (λ (o : Order) (x : ℕ). spliced W o ws x a.n (λ i. applied a.operation (row W o ws (x + i)) (row W o vs (a.s + i)))) c.in-Msb0.is (omega (arith, z, div-add-mod' a.d W)))
