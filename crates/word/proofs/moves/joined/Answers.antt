-- `joined` is the funnel of two words, in either order.
use mathlib.Core.Path.{◌∙◌}
use native.Mathlib.Omega.{arith}
use borrow.Author.Rules.{rules}
use Rattle.laws.proofs.Words.Moves.{joined_lsb0, joined_msb0}
use Rattle.word.proofs.moves.joined.Goals as goal

pub returns-in-Lsb0 : goal.returns-in-Lsb0
returns-in-Lsb0 g c =
    rw (c.shr.ensures, c.shl-in-Lsb0.ensures, c.shl.ensures) at c.or.ensures ∙ joined_lsb0 g.row.W _ _ _ _ _ (omega arith) (search rules)

pub returns-in-Msb0 : goal.returns-in-Msb0
returns-in-Msb0 g c =
    rw (c.shl-in-Msb0.ensures, c.shr-in-Msb0-2.ensures, c.shr-in-Msb0.ensures) at c.or-in-Msb0.ensures ∙ joined_msb0 g.row.W _ _ _ _ _ (omega arith) (search rules)
