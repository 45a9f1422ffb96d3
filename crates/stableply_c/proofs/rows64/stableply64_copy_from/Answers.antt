-- What the library's call promises over the words as numbers, since those are the lent words. Assumes nothing.
use borrow.Author.Rules.{rules}
use Rattle.laws.proofs.Words.Lent.{lent_64}
use Rattle.stableply_c.proofs.rows64.stableply64_copy_from.Goals as goal

pub returns : goal.returns
returns c = rw (lent_64 c.args.words.now (search rules), lent_64 c.args.source.now (search rules), lent_64 c.copy_from.new.words (search rules)) at c.copy_from.ensures
