-- `copy::whole` lends the words from a word's start on; each comes back as the word of the source row that belongs there.
use mathlib.Core.Path.{◌∙◌}
use Prim.Native.Nat.{◌+◌, ◌-◌, ◌*◌, ◌/◌, ◌%◌, ◌≤◌}
use native.Mathlib.Nat.{add-mul, zero-mul, div-add-mod', mod-lt, le_of_mul-le-mul_right}
use native.Mathlib.Omega.{arith}
use lib.ListN.{length}
use Rattle.std.specs.Prelude.{map}
use Rattle.std.proofs.lemmas.List.{length-map}
use Rattle.rules.specs.Positions.{row}
use Rattle.laws.proofs.Rows.Part.{mid_length, none_put}
use Rattle.laws.proofs.Words.Wholes.{lent_row, part_plain, part_joined}
use Rattle.laws.proofs.Words.Typed.{row_below, lent_length, lent_map}
use Rattle.copy.proofs.whole.Goals as goal

pub returns-then-k-eq0 : goal.returns-then-k-eq0
returns-then-k-eq0 g c =
    let w = g.row.W in
    let v = g.T.Word.value in
    let a = c.args in
    none_put w g.met.T.Word.some a.order (map v a.words.now) a.d (λ i. row w a.order (map v a.source.now) (a.s + i)) (a.k * w) (grind (arith, zero-mul w)) (row_below v w g.met.T.Word.below a.words.now)

pub returns-then-h-eq0 : goal.returns-then-h-eq0
returns-then-h-eq0 g c =
    let w = g.row.W in
    let m = g.met.T.Word in
    let v = g.T.Word.value in
    let a = c.args in
    let i = a.d / w in
    let b = a.s / w in
    let z = c.requires.0 (omega arith) in
    let ed = div-add-mod' a.d w in
    let es = div-add-mod' a.s w in
    let room : i + a.k ≤ length a.words.now = le_of_mul-le-mul_right (omega (arith, add-mul i a.k w, ed, z)) m.some in
    let ws = map v a.words.now in
    let vs = map v a.source.now in
    let left = c.plain_words.new.words in
    lent_map v i (i + a.k - i) a.words.now left
    ∙ lent_row w m.some a.order ws (map v left) i (i + a.k - i) a.k a.d (omega arith) (omega (arith, ed, z)) (rw length-map room) (row_below v w m.below a.words.now)
    (lent_length v i (i + a.k - i) a.words.now left c.plain_words.auto.words) vs a.s
    (λ j l. rw c.part.ensures.0 at (c.plain_words.ensures j (omega (arith, l, mid_length a.words.now i (i + a.k - i) a.k (omega arith) room)))
    ∙ part_plain w a.order vs b a.s (row_below v w m.below a.source.now) (omega (arith, es)) (b + a.k - b) j (omega arith))

pub returns : goal.returns
returns g c =
    let w = g.row.W in
    let m = g.met.T.Word in
    let v = g.T.Word.value in
    let a = c.args in
    let i = a.d / w in
    let b = a.s / w in
    let z = c.requires.0 (omega arith) in
    let ed = div-add-mod' a.d w in
    let es = div-add-mod' a.s w in
    let room : i + a.k ≤ length a.words.now = le_of_mul-le-mul_right (omega (arith, add-mul i a.k w, ed, z)) m.some in
    let ws = map v a.words.now in
    let vs = map v a.source.now in
    let left = c.funnel_words.new.words in
    lent_map v i (i + a.k - i) a.words.now left
    ∙ lent_row w m.some a.order ws (map v left) i (i + a.k - i) a.k a.d (omega arith) (omega (arith, ed, z)) (rw length-map room) (row_below v w m.below a.words.now)
    (lent_length v i (i + a.k - i) a.words.now left c.funnel_words.auto.words) vs a.s
    (λ j l. rw c.part-2.ensures.0 at (c.funnel_words.ensures j (omega (arith, l, mid_length a.words.now i (i + a.k - i) a.k (omega arith) room)))
    ∙ part_joined w a.order vs b a.s (row_below v w m.below a.source.now) (a.s % w) (mod-lt a.s m.some) es (b + a.k + 1 - b) j (omega arith))
