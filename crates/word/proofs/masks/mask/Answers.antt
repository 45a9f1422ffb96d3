-- `mask`: the ones from the lowest position of the indexes up, which is that of the first or that of the last. Assumes nothing.
use borrow.Author.Rules.{rules}
use native.Mathlib.Omega.{arith}
use Rattle.rules.proofs.Bits.Masks.{run_lsb0, run_msb0}
use Rattle.word.proofs.masks.mask.Goals as goal

pub returns-in-Lsb0 : goal.returns-in-Lsb0
returns-in-Lsb0 g c = run_lsb0 g.row.W _ _ (omega arith) (search rules) c.ones.ensures

pub returns-in-Msb0 : goal.returns-in-Msb0
returns-in-Msb0 g c = run_msb0 g.row.W _ _ (omega arith) (search rules) c.ones-in-Msb0.ensures
