-- `equal_whole`: words agree exactly if their bits do.
use mathlib.Core.Path.{refl, ap, ◌∙◌}
use Prim.Native.Nat.{ℕ, ◌+◌, ◌-◌, ◌/◌, ◌%◌}
use native.Mathlib.Nat.{div-add-mod', mod-lt}
use native.Mathlib.Omega.{arith}
use lib.ListN.{get_or}
use Rattle.std.specs.Prelude.{List, map}
use Rattle.laws.proofs.Rows.Part.{part_word}
use Rattle.laws.proofs.Words.Typed.{row_below}
use Rattle.laws.proofs.Words.Wholes.{word_on, word_joined, part_plain}
use Rattle.laws.proofs.Words.Agree.{tells_as, words_tell}
use Rattle.equal.proofs.equal_whole.Goals as goal

pub returns-then-h-eq0 : goal.returns-then-h-eq0
returns-then-h-eq0 g c =
    let a = c.args in
    let W = g.row.W in
    let w = g.T.Word in
    let m = g.met.T.Word in
    let ls = map w.value a.left.now in
    let rs = map w.value a.right.now in
    let i = a.p / W in
    let z = c.requires.0 (omega arith) in
    let below = row_below w.value W m.below a.right.now in
    words_tell W m.some a.order ls rs a.p a.q i a.k (omega (arith, z, div-add-mod' a.p W)) (row_below w.value W m.below a.left.now) c.equal_plain.result
    (tells_as c.equal_plain.result a.k (λ j. get_or ls (i + j) 0) (word_on W a.order rs a.q) _ _ (omega arith)
    (λ j l. ap (λ (x : List ℕ). get_or x j 0) c.part-ours.ensures.0 ∙ part_word ls i (i + a.k - i) j (omega arith))
    (λ j l. ap (λ (x : List ℕ). get_or x j 0) c.part-theirs.ensures.0 ∙ part_plain W a.order rs (a.q / W) a.q below (omega (arith, div-add-mod' a.q W)) (a.q / W + a.k - a.q / W) j (omega arith))
    c.equal_plain.ensures)

pub returns : goal.returns
returns g c =
    let a = c.args in
    let W = g.row.W in
    let w = g.T.Word in
    let m = g.met.T.Word in
    let ls = map w.value a.left.now in
    let rs = map w.value a.right.now in
    let z = c.requires.0 (omega arith) in
    words_tell W m.some a.order ls rs a.p a.q (a.p / W) a.k (omega (arith, z, div-add-mod' a.p W)) (row_below w.value W m.below a.left.now) c.equal_joined.result
    (tells_as c.equal_joined.result a.k (λ i. get_or ls (a.p / W + i) 0) (word_on W a.order rs a.q) _ _ refl (λ i l. refl)
    (λ i l. word_joined W a.order rs (a.q / W) a.q (row_below w.value W m.below a.right.now) (a.q % W) (mod-lt a.q m.some) (omega (arith, div-add-mod' a.q W)) i) c.equal_joined.ensures)
