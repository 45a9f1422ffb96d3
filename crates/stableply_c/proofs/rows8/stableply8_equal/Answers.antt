-- What the library's call promises over the words as numbers, since those are the lent words. Assumes nothing.
use borrow.Author.Rules.{rules}
use Rattle.laws.proofs.Words.Lent.{lent_8}
use Rattle.stableply_c.proofs.rows8.stableply8_equal.Goals as goal

pub returns : goal.returns
returns c = rw (← lent_8 c.args.left.now (search rules), ← lent_8 c.args.right.now (search rules)) c.equal.ensures
