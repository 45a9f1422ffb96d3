-- `down` moves a word down along its indexes: to the right under Lsb0, to the left under Msb0.
use mathlib.Core.Path.{◌∙◌}
use borrow.Author.Rules.{rules}
use Rattle.laws.proofs.Words.Moves.{down_lsb0, down_msb0}
use Rattle.word.proofs.moves.down.Goals as goal

pub returns-in-Lsb0 : goal.returns-in-Lsb0
returns-in-Lsb0 g c = c.shr.ensures ∙ down_lsb0 g.row.W _ _ _ (search rules)

pub returns-in-Msb0 : goal.returns-in-Msb0
returns-in-Msb0 g c = c.shl.ensures ∙ down_msb0 g.row.W _ _ _ (search rules)
