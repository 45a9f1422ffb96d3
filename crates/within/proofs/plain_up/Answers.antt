-- `plain_up`: the first i words are moved; a word more is not one that was written.
use mathlib.Core.Path.{◌∙◌}
use mathlib.Core.Logic.{inl, inr, ⊎_elim}
use Prim.Native.Nat.{◌+◌, ◌*◌}
use native.Mathlib.Nat.{zero-mul}
use native.Mathlib.Omega.{arith}
use Rattle.std.specs.Prelude.{map}
use Rattle.laws.proofs.Words.Typed.{row_below, number_read}
use Rattle.laws.proofs.Words.Moves.{from_word}
use Rattle.laws.proofs.Rows.Scratch.{moved_none}
use Rattle.laws.proofs.Rows.InPlace.{stored_up}
use Rattle.within.proofs.plain_up.Goals as goal

pub loop-i-init : goal.loop-i-init
loop-i-init g c =
    let a = c.args in
    let W = g.row.W in
    let m = g.met.T.Word in
    λ o. moved_none W m.some o _ (a.b * W + 0) (a.a * W) (0 * W) (zero-mul W) (row_below g.T.Word.value W m.below a.words.now)

pub loop-i-preserved : goal.loop-i-preserved
loop-i-preserved g c =
    let a = c.args in
    let v = g.T.Word.value in
    let words = c.loop-i.words in
    let i = c.loop-i.i in
    λ o. stored_up v g.row.W g.met.T.Word.some o a.words.now words a.a a.b 0 0 a.k i c.index-words-b.result (omega arith) (omega arith) (omega arith) c.requires.1
    (λ w. number_read v words (a.b + i) (omega arith) c.index-words-b.is ∙ from_word g.row.W o (map v words) (a.b + i) w)
    (⊎_elim inl (λ l. inr (omega arith)) c.requires.2) (c.loop-i.invariant o)
