-- `last_zero`: refused by the span's table, or the row's answer. Assumes nothing.
use mathlib.Core.Path.{◌∙◌}
use native.Mathlib.Omega.{arith}
use Rattle.std.specs.Prelude.{map}
use Rattle.std.proofs.lemmas.List.{length-map}
use Rattle.rules.proofs.Refusals.Tables.{fine_inside}
use Rattle.rules.proofs.Refusals.OneAnswer.{accepted, declined, says_passed}
use Rattle.rules.proofs.Searches.SearchAnswers.{last_refused, answers_last}
use Rattle.search.proofs.last_zero.Goals as goal

pub last_in_row-requires : goal.last_in_row-requires
last_in_row-requires g c =
    let p = fine_inside g.row.W _ _ (accepted (rw (c.WIDTH.ensures, g.met.T.Word.wide) at c.check.ensures) c.in_ok-check.was) in
    (p.starts, omega arith, p.few)

pub returns-in_err-check : goal.returns-in_err-check
returns-in_err-check g c =
    let a = c.args in
    says_passed _ _ _ c.from_residual.ensures.1
    ∙ last_refused g.row.W 0 a.span (map g.T.Word.value a.words.now) (rw length-map (declined (rw (c.WIDTH.ensures, g.met.T.Word.wide) at c.check.ensures) c.in_err-check.was))

pub returns : goal.returns
returns g c =
    let a = c.args in
    answers_last g.row.W 0 a.span (map g.T.Word.value a.words.now) (rw length-map (accepted (rw (c.WIDTH.ensures, g.met.T.Word.wide) at c.check.ensures) c.in_ok-check.was))
    c.last_in_row.ensures c.last_answer.ensures
