-- `zeros_end`: the zeros below the first one, counted from the end where the order begins. What is counted in an Lsb0 word is looked up by its value.
-- Assumes nothing.
use mathlib.Core.Path.{◌∙◌}
use borrow.Author.Rules.{rules}
use Rattle.laws.proofs.Searches.WordSearch.{first_lsb0, first_msb0}
use Rattle.word.proofs.zeros.zeros_end.Goals as goal

pub returns-in-Lsb0 : goal.returns-in-Lsb0
returns-in-Lsb0 g c = search rules ∙ first_lsb0 g.row.W (g.T.Word.value c.args.word) (search rules)

pub returns-in-Msb0 : goal.returns-in-Msb0
returns-in-Msb0 g c = c.leading_zeros.ensures ∙ first_msb0 g.row.W _ (search rules) (g.met.T.Word.below _)
