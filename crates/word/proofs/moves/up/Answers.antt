-- `up` moves a word up along its indexes: to the left under Lsb0, to the right under Msb0.
use mathlib.Core.Path.{◌∙◌}
use borrow.Author.Rules.{rules}
use Rattle.laws.proofs.Words.Moves.{up_lsb0, up_msb0}
use Rattle.word.proofs.moves.up.Goals as goal

pub returns-in-Lsb0 : goal.returns-in-Lsb0
returns-in-Lsb0 g c = c.shl.ensures ∙ up_lsb0 g.row.W _ _ _ (search rules)

pub returns-in-Msb0 : goal.returns-in-Msb0
returns-in-Msb0 g c = c.shr.ensures ∙ up_msb0 g.row.W _ _ _ (search rules)
