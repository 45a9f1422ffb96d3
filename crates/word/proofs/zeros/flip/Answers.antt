-- `flip`: by cases of what is sought. Assumes nothing.
use mathlib.Core.Path.{◌∙◌}
use borrow.Author.Rules.{rules}
use Rattle.laws.proofs.Searches.WordSearch.{flipped}
use Rattle.laws.proofs.Words.Typed.{all_ones}
use Rattle.word.proofs.zeros.flip.Goals as goal

pub returns-then-sought : goal.returns-then-sought
unfolding flipped
returns-then-sought g c = search rules

pub returns-else-sought : goal.returns-else-sought
unfolding flipped
returns-else-sought g c = let w = g.T.Word in rw c.if-sought.false (c.of-else-sought.ensures ∙ all_ones w.WIDTH g.row.W g.met.T.Word.wide)
