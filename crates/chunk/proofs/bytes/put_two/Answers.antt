-- `put_two`: a word stored, and then the next. Assumes nothing.
use native.Mathlib.Omega.{arith}
use mathlib.Core.Path.{◌≡◌, ap, ◌∙◌}
use Prim.Native.Nat.{◌+◌, ◌*◌}
use lib.Dec.{lit<}
use lib.ListN.{length, length-set}
use Rattle.std.specs.Prelude.{map}
use Rattle.std.proofs.lemmas.List.{length-map}
use Rattle.rules.specs.Fields.{store_of}
use Rattle.laws.proofs.Fields.Cuts.{store_next}
use Rattle.laws.proofs.Words.Typed.{row_below}
use Rattle.laws.proofs.Words.Wholes.{store_word}
use Rattle.chunk.proofs.bytes.put_two.Goals as goal

pub returns : goal.returns
returns g c =
    let a = c.args in
    let w = g.T.Word.value in
    let e = a.significance in
    let ws = map w a.words.now in
    let new = map w c.put_word.new.words in
    let n : length new ≡ length a.words.now = ap length c.put_word.ensures ∙ simp (length-set, length-map) in
    λ o. store_next 8 (lit< tt) o e ws a.at 1 8 a.v
    (c.put_word.ensures ∙ store_word 8 (lit< tt) o e ws (row_below w 8 g.met.T.Word.below _) a.at (rw length-map (omega arith)) c.first_of-a.result
    ∙ ap (store_of 8 o e ws (a.at * 8) 8) c.first_of-a.ensures)
    (c.put_word-2.ensures ∙ store_word 8 (lit< tt) o e new (row_below w 8 g.met.T.Word.below _) (a.at + 1) (omega (arith, n)) c.rest_of-b.result
    ∙ ap (store_of 8 o e new ((a.at + 1) * 8) 8) c.rest_of-b.ensures)
