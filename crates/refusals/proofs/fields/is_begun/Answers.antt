-- `is_begun`: more words than may be lent have begun nothing. Assumes nothing.
use native.Mathlib.Omega.{arith}
use mathlib.Core.Bool.{false≢true}
use Rattle.refusals.proofs.fields.is_begun.Goals as goal

pub returns-then-lent-gt-MOST_WORDS : goal.returns-then-lent-gt-MOST_WORDS
returns-then-lent-gt-MOST_WORDS c = (λ e. absurd (false≢true e), λ _ b. omega (arith, b.few))
