-- What the library's call promises over the words as numbers, since those are the lent words. Assumes nothing.
use borrow.Author.Rules.{rules}
use Rattle.laws.proofs.Words.Lent.{lent_64}
use Rattle.stableply_c.proofs.rows64.stableply64_equal.Goals as goal

pub returns : goal.returns
returns c = rw (← lent_64 c.args.left.now (search rules), ← lent_64 c.args.right.now (search rules)) c.equal.ensures
