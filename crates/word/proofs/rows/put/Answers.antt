-- `put` merges under a mask and stores one word: a splice within that word.
use mathlib.Core.Path.{ap, ◌∙◌}
use Prim.Native.Nat.{◌/◌}
use native.Mathlib.Omega.{arith}
use lib.ListN.{length, set}
use Rattle.std.specs.Prelude.{map}
use Rattle.std.proofs.lemmas.List.{length-map}
use Rattle.laws.proofs.Words.Merged.{put_piece}
use Rattle.laws.proofs.Words.Typed.{row_below, holds_place}
use Rattle.word.proofs.rows.put.Goals as goal

pub returns : goal.returns
returns g c =
    let a = c.args in
    let w = g.T.Word in
    let m = g.met.T.Word in
    let ws = map w.value a.words.now in
    c.write.ensures
    ∙ ap (set ws (a.d / g.row.W)) (rw c.read.ensures at c.select-x.ensures)
    ∙ put_piece g.row.W m.some a.order ws a.d a.n (w.value a.v) (omega arith) (rw length-map (holds_place g.row.W a.d a.n (length a.words.now) m.some (omega arith) (omega arith))) (row_below w.value g.row.W m.below a.words.now) (m.below a.v) c.mask-m.ensures
