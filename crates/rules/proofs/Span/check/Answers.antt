-- `Span::check`: the tests are the rows of the table in their order.
use mathlib.Core.Path.{sym, ◌∙◌}
use native.Mathlib.Omega.{arith}
use Rattle.rules.proofs.Refusals.Tables.{refused_1, refused_2, refused_3, none_refused}
use Rattle.rules.proofs.Refusals.OneAnswer.{judges}
use Rattle.rules.proofs.Span.check.Goals as goal

pub returns-then-lent-gt-MOST_WORDS : goal.returns-then-lent-gt-MOST_WORDS
returns-then-lent-gt-MOST_WORDS c = judges (sym (refused_1 _ _ _ (omega arith)))

pub returns-then-w-head : goal.returns-then-w-head
returns-then-w-head c = judges (let h = c.bits-w.ensures in sym (refused_2 _ _ _ (omega arith) (omega arith)))

pub returns-then-outside : goal.returns-then-outside
returns-then-outside c =
    judges (let h = c.bits-w.ensures in
    sym (refused_3 _ _ _ c.if-lent-gt-MOST_WORDS.false (omega arith) (sym c.is_outside-outside.ensures ∙ c.if-outside.true)))

pub returns : goal.returns
returns c =
    judges (let h = c.bits-w.ensures in
    sym (none_refused _ _ _ c.if-lent-gt-MOST_WORDS.false (omega arith) (sym c.is_outside-outside.ensures ∙ c.if-outside.false)))
