-- `last_end`: the zeros above the last one, counted from the end where the order ends. Assumes nothing.
use mathlib.Core.Path.{ap, ◌∙◌}
use Prim.Native.Nat.{◌-◌}
use borrow.Author.Rules.{rules}
use Rattle.laws.proofs.Searches.WordSearch.{last_lsb0, last_msb0}
use Rattle.word.proofs.zeros.last_end.Goals as goal

pub returns-in-Lsb0 : goal.returns-in-Lsb0
returns-in-Lsb0 g c = let w = g.T.Word in ap (λ z. g.row.W - z) c.leading_zeros.ensures ∙ last_lsb0 g.row.W _ (search rules) (g.met.T.Word.below _)

pub returns-in-Msb0 : goal.returns-in-Msb0
returns-in-Msb0 g c = let w = g.T.Word in ap (λ z. g.row.W - z) c.trailing_zeros.ensures ∙ last_msb0 g.row.W _ (search rules)
