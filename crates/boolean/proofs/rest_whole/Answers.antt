-- `rest_whole` lends the words from a word's start on, with a right side of 0.
use Prim.Native.Nat.{◌+◌, ◌-◌, ◌*◌, ◌/◌}
use native.Mathlib.Nat.{div-add-mod', zero-mul}
use native.Mathlib.Omega.{arith}
use Rattle.std.specs.Prelude.{map}
use Rattle.rules.specs.Positions.{row}
use Rattle.rules.specs.Rows.{applied}
use Rattle.rules.proofs.Bits.Bit.{bit_of_zero}
use Rattle.laws.proofs.Words.Typed.{row_below, words_room}
use Rattle.laws.proofs.Rows.Part.{none_put}
use Rattle.laws.proofs.Words.Combine.{lent_combined}
use Rattle.boolean.proofs.rest_whole.Goals as goal

pub returns-then-k-eq0 : goal.returns-then-k-eq0
returns-then-k-eq0 g c =
    let a = c.args in
    let W = g.row.W in
    let w = g.T.Word in
    let m = g.met.T.Word in
    let ws = map w.value a.words.now in
    none_put W m.some a.order ws a.d (λ i. applied a.operation (row W a.order ws (a.d + i)) 0) (a.k * W) (rw c.if-k-eq0.true (zero-mul W)) (row_below w.value W m.below a.words.now)

pub returns : goal.returns
returns g c =
    let a = c.args in
    let W = g.row.W in
    let i = a.d / W in
    let z = c.requires.0 (omega arith) in
    lent_combined g.T.Word.value W g.met.T.Word.some g.met.T.Word.below a.order a.words.now c.rest_words.new.words a.d a.operation (λ _. 0) i (i + a.k - i) a.k (omega arith)
    (omega (arith, z, div-add-mod' a.d W)) (words_room W a.d a.k _ g.met.T.Word.some c.requires.1) c.rest_words.auto.words (λ _. 0) c.rest_words.ensures (λ j l p q. bit_of_zero p)
