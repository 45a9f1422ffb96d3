-- `plain_cases`: and, or and xor of words are those of the truth table.
use mathlib.Core.Path.{◌∙◌}
use borrow.Author.Rules.{rules}
use Rattle.laws.proofs.Words.Combine.{wordwise, and_word, or_word, xor_word}
use Rattle.combine.proofs.plain_cases.Goals as goal

pub returns-in-8 : goal.returns-in-8
returns-in-8 g c =
    let below = g.met.T.Word.below in
    c.plain_words.ensures (wordwise g.row.W c.args.operation) (λ a b r p. p ∙ and_word g.row.W _ _ (below a) (below b) (search rules))

pub returns-in-14 : goal.returns-in-14
returns-in-14 g c =
    let below = g.met.T.Word.below in
    c.plain_words-in-14.ensures (wordwise g.row.W c.args.operation) (λ a b r p. p ∙ or_word g.row.W _ _ (below a) (below b) (search rules))

pub returns-in-6 : goal.returns-in-6
returns-in-6 g c =
    let below = g.met.T.Word.below in
    c.plain_words-in-6.ensures (wordwise g.row.W c.args.operation) (λ a b r p. p ∙ xor_word g.row.W _ _ (below a) (below b) (search rules))

pub returns-in_default : goal.returns-in_default
returns-in_default g c = c.plain_words-in_default.ensures (wordwise g.row.W c.args.operation) (λ a b r p. p)
