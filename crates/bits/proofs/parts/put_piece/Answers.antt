-- `put_piece`: the word stored by a mask is the field stored, whatever the significance. Assumes nothing.
use native.Mathlib.Omega.{arith}
use native.Mathlib.Nat.{mod-eq_of_lt}
use mathlib.Core.Path.{ap, ◌∙◌}
use Prim.Native.Nat.{ℕ}
use lib.ListN.{set}
use Rattle.std.specs.Prelude.{map}
use Rattle.std.proofs.lemmas.List.{length-map}
use Rattle.rules.proofs.Fields.Field.{lowest}
use Rattle.laws.proofs.Fields.Chunk.{masked, store_one}
use Rattle.laws.proofs.Words.Typed.{row_below}
use Rattle.bits.proofs.parts.put_piece.Goals as goal

pub returns : goal.returns
returns g c =
    let a = c.args in
    let W = g.row.W in
    let m = g.met.T.Word in
    let ws = map g.T.Word.value a.words.now in
    let p = lowest W a.order a.head.0 a.n in
    let v = c.with_piece-y.ensures in
    λ e. c.put_word.ensures ∙ ap (set ws a.word) (mod-eq_of_lt v.1 ∙ v.0 ∙ ap (λ (z : ℕ). masked W z p a.n a.v) c.word_at-x.ensures.0)
    ∙ store_one W m.some a.order e ws a.word (rw length-map (omega arith)) (row_below g.T.Word.value W m.below a.words.now) a.head.0 a.n (omega arith) a.v
