-- `check_copy_within` is the check of the span, and then one row, whose sums are compared as a difference.
use mathlib.Core.Path.{sym, ap, ap₂, ◌∙◌}
use mathlib.Core.Bool.{Bool, ◌||◌, or-true}
use Prim.Native.Nat.{◌+◌}
use native.Mathlib.Omega.{arith}
use lib.Dec.{ltb}
use borrow.Author.Tests.{lt-ltb, le-ltb}
use Rattle.rules.specs.Refusals.{within_cases}
use Rattle.rules.proofs.Refusals.Tables.{stops, last_holds, last_clear}
use Rattle.rules.proofs.Refusals.OneAnswer.{accepted, declined, judges, judges_passed}
use Rattle.refusals.proofs.rows.check_copy_within.Goals as goal

pub returns-then-len-count : goal.returns-then-len-count
unfolding within_cases
returns-then-len-count c =
    judges (let a = c.args in
    sym (last_holds _ _ _ (accepted c.check.ensures c.in_ok-check.was) (ap (λ (b : Bool). b || ltb a.span.len (a.to + a.count)) (lt-ltb a.span.len (a.from + a.count) (omega arith)))))

pub returns-then-room-from : goal.returns-then-room-from
unfolding within_cases
returns-then-room-from c =
    judges (let a = c.args in
    sym (last_holds _ _ _ (accepted c.check.ensures c.in_ok-check.was) (ap (λ (b : Bool). b || ltb a.span.len (a.to + a.count)) (lt-ltb a.span.len (a.from + a.count) (omega arith)))))

pub returns-then-room-to : goal.returns-then-room-to
unfolding within_cases
returns-then-room-to c =
    judges (let a = c.args in
    sym (last_holds _ _ _ (accepted c.check.ensures c.in_ok-check.was) (ap (λ (b : Bool). ltb a.span.len (a.from + a.count) || b) (lt-ltb a.span.len (a.to + a.count) (omega arith)) ∙ or-true (ltb a.span.len (a.from + a.count)))))

pub returns-in_err-check : goal.returns-in_err-check
unfolding within_cases
returns-in_err-check c = judges_passed c.from_residual.ensures.1 (stops _ _ (declined c.check.ensures c.in_err-check.was))

pub returns : goal.returns
unfolding within_cases
returns c =
    judges (let a = c.args in
    sym (last_clear _ _ _ (accepted c.check.ensures c.in_ok-check.was) (ap₂ ◌||◌ (le-ltb a.span.len (a.from + a.count) (omega arith)) (le-ltb a.span.len (a.to + a.count) (omega arith)))))
