-- `two_at`: a word and the next, joined. Assumes nothing.
use mathlib.Core.Path.{◌≡◌, sym, ◌∙◌}
use Prim.Native.Nat.{◌+◌, ◌*◌}
use lib.Dec.{lit<}
use Rattle.std.specs.Prelude.{map}
use Rattle.rules.specs.declared.Order.{Order}
use Rattle.rules.specs.declared.Order.TheVariants.{Lsb0}
use Rattle.rules.specs.declared.Significance.TheVariants.{Le}
use Rattle.rules.specs.Fields.{load_of}
use Rattle.laws.proofs.Fields.Cuts.{load_fits, load_next}
use Rattle.laws.proofs.Words.Typed.{row_below}
use Rattle.laws.proofs.Words.Wholes.{load_word}
use Rattle.chunk.proofs.bytes.two_at.Goals as goal

is : (g : _) (c : goal.After-join g) (o : Order) → (let a = c.args in c.join.result ≡ load_of 8 o Le (map g.T.Word.value a.words.now) (a.at * 8) 16)
is g c o =
    let a = c.args in
    let w = g.T.Word.value in
    let ws = map w a.words.now in
    let fit = row_below w 8 g.met.T.Word.below a.words.now in
    c.join.ensures
    ∙ load_next 8 (lit< tt) o Le ws a.at 1 8
    (c.word_at-a.ensures.0 ∙ sym (load_word 8 (lit< tt) o Le ws fit a.at))
    (c.word_at-b.ensures.0 ∙ sym (load_word 8 (lit< tt) o Le ws fit (a.at + 1)))

pub returns : goal.returns
returns g c = let a = c.args in
    (is g c, (load_fits 8 (lit< tt) Lsb0 Le (map g.T.Word.value a.words.now) (a.at * 8) 16 (is g c Lsb0)).1)
