-- `apply`: and, or and xor of words are those of the truth table.
use mathlib.Core.Path.{◌∙◌}
use borrow.Author.Rules.{rules}
use Rattle.laws.proofs.Words.Combine.{and_word, or_word, xor_word}
use Rattle.combine.proofs.apply.Goals as goal

pub returns-in-8 : goal.returns-in-8
returns-in-8 g c =
    let below = g.met.T.Word.below in
    c.and.ensures ∙ and_word g.row.W _ _ (below c.args.a) (below c.args.b) (search rules)

pub returns-in-14 : goal.returns-in-14
returns-in-14 g c =
    let below = g.met.T.Word.below in
    c.or.ensures ∙ or_word g.row.W _ _ (below c.args.a) (below c.args.b) (search rules)

pub returns-in-6 : goal.returns-in-6
returns-in-6 g c =
    let below = g.met.T.Word.below in
    c.xor.ensures ∙ xor_word g.row.W _ _ (below c.args.a) (below c.args.b) (search rules)
