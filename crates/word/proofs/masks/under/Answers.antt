-- `under`: what is left of a word under a mask is no more than the word. Assumes nothing.
use mathlib.Core.Path.{◌∙◌}
use Rattle.laws.proofs.Words.Typed.{small_and}
use Rattle.word.proofs.masks.under.Goals as goal

pub returns : goal.returns
returns g c =
    let w = g.T.Word in
    rw c.number.ensures at c.of.ensures ∙ small_and g.row.W (w.value c.args.x) c.args.m.0 (g.met.T.Word.below c.args.x)
