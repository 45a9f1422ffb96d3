-- `whole_words` lends the words from a word's start on; each comes back as the operation's with the word of the right row that belongs there.
use Prim.Native.Nat.{◌+◌, ◌-◌, ◌*◌, ◌/◌, ◌%◌}
use native.Mathlib.Nat.{div-add-mod', zero-mul, mod-lt}
use native.Mathlib.Omega.{arith}
use lib.ListN.{get_or, take, drop}
use Rattle.std.specs.Prelude.{map}
use Rattle.rules.specs.Positions.{row}
use Rattle.rules.specs.Rows.{applied}
use Rattle.laws.proofs.Words.Typed.{row_below, words_room}
use Rattle.laws.proofs.Words.Funnel.{funneled}
use Rattle.laws.proofs.Rows.Part.{none_put}
use Rattle.laws.proofs.Words.Wholes.{part_plain, part_joined}
use Rattle.laws.proofs.Words.Combine.{lent_combined, right_word}
use Rattle.boolean.proofs.whole_words.Goals as goal

pub returns-then-k-eq0 : goal.returns-then-k-eq0
returns-then-k-eq0 g c =
    let a = c.args in
    let W = g.row.W in
    let w = g.T.Word in
    let m = g.met.T.Word in
    let ws = map w.value a.words.now in
    none_put W m.some a.order ws a.d (λ i. applied a.operation (row W a.order ws (a.d + i)) (row W a.order (map w.value a.right.now) (a.s + i))) (a.k * W) (rw c.if-k-eq0.true (zero-mul W))
    (row_below w.value W m.below a.words.now)

pub returns-then-h-eq0 : goal.returns-then-h-eq0
returns-then-h-eq0 g c =
    let a = c.args in
    let W = g.row.W in
    let m = g.met.T.Word in
    let v = g.T.Word.value in
    let vs = map v a.right.now in
    let i = a.d / W in
    let b = a.s / W in
    let z = c.requires.0 (omega arith) in
    lent_combined v W m.some m.below a.order a.words.now c.plain_cases.new.words a.d a.operation (λ j. row W a.order vs (a.s + j)) i (i + a.k - i) a.k (omega arith)
    (omega (arith, z, div-add-mod' a.d W)) (words_room W a.d a.k _ g.met.T.Word.some c.requires.1) c.plain_cases.auto.words
    (λ j. get_or (take (b + a.k - b) (drop b vs)) j 0) (rw c.part.ensures.0 at c.plain_cases.ensures)
    (λ j l. right_word W a.order vs a.s j (part_plain W a.order vs b a.s (row_below v W m.below a.right.now) (omega (arith, div-add-mod' a.s W)) (b + a.k - b) j (omega arith)))

pub returns : goal.returns
returns g c =
    let a = c.args in
    let W = g.row.W in
    let m = g.met.T.Word in
    let v = g.T.Word.value in
    let vs = map v a.right.now in
    let i = a.d / W in
    let b = a.s / W in
    let z = c.requires.0 (omega arith) in
    lent_combined v W m.some m.below a.order a.words.now c.funnel_cases.new.words a.d a.operation (λ j. row W a.order vs (a.s + j)) i (i + a.k - i) a.k (omega arith)
    (omega (arith, z, div-add-mod' a.d W)) (words_room W a.d a.k _ g.met.T.Word.some c.requires.1) c.funnel_cases.auto.words
    (λ j. funneled W a.order (a.s % W) (get_or (take (b + a.k + 1 - b) (drop b vs)) j 0) (get_or (take (b + a.k + 1 - b) (drop b vs)) (j + 1) 0)) (rw c.part-2.ensures.0 at c.funnel_cases.ensures)
    (λ j l. right_word W a.order vs a.s j (part_joined W a.order vs b a.s (row_below v W m.below a.right.now) (a.s % W) (mod-lt a.s m.some) (omega (arith, div-add-mod' a.s W)) (b + a.k + 1 - b) j (omega arith)))
