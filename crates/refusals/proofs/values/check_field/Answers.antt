-- `check_field`: the tests are the rows of the table in their order.
use mathlib.Core.Path.{sym, ◌∙◌}
use Rattle.rules.proofs.Refusals.Tables.{no_such_K, empty_field, long_field, field_fine}
use Rattle.rules.proofs.Refusals.OneAnswer.{judges}
use Rattle.refusals.proofs.values.check_field.Goals as goal

pub returns-then-not-sized : goal.returns-then-not-sized
returns-then-not-sized c = judges (sym (no_such_K _ _ (sym c.is_size-sized.ensures ∙ c.if-not-sized.true)))

pub returns-then-len-eq0 : goal.returns-then-len-eq0
returns-then-len-eq0 c =
    judges (sym (empty_field _ _ (sym c.is_size-sized.ensures ∙ c.if-not-sized.false) c.if-len-eq0.true))

pub returns-then-k-len : goal.returns-then-k-len
returns-then-k-len c =
    judges (sym (long_field _ _ (sym c.is_size-sized.ensures ∙ c.if-not-sized.false) c.if-k-len.true))

pub returns : goal.returns
returns c =
    judges (sym (field_fine _ _ (sym c.is_size-sized.ensures ∙ c.if-not-sized.false) c.if-len-eq0.false c.if-k-len.false))
