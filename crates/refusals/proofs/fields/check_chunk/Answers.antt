-- `check_chunk`: a field that has not begun well is refused; one that has is accepted in one word, or in two where the second is lent. Assumes
-- nothing.
use mathlib.Core.Path.{sym}
use Prim.Native.Nat.{ℕ, ◌≤◌}
use native.Mathlib.Omega.{arith}
use Rattle.rules.proofs.Refusals.Accepted.{one_of}
use Rattle.laws.proofs.Fields.Begun.{Begun, fine_begun, within_fine, across_fine, head_refused, end_refused}
use Rattle.rules.proofs.Refusals.OneAnswer.{judges}
use Rattle.refusals.proofs.fields.check_chunk.Goals as goal

-- a field of an accepted K has at most 64 bits
small : {lent word len K : ℕ} → Begun lent word len K → len ≤ 64
small b = omega (arith, b.fitting, one_of _ b.sized)

pub reason-requires : goal.reason-requires
reason-requires c = λ e. c.is_begun-begun.ensures.1 c.if-not-begun.true (fine_begun _ _ _ _ e)

pub overflow_sub-span : goal.overflow_sub-span
overflow_sub-span c = small (c.is_begun-begun.ensures.0 c.if-not-begun.false)

pub returns-then-head-span : goal.returns-then-head-span
returns-then-head-span c =
    judges (let l = small (c.is_begun-begun.ensures.0 c.if-not-begun.false) in sym (within_fine _ _ _ _ (c.is_begun-begun.ensures.0 c.if-not-begun.false) (omega arith)))

pub returns-then-head-ge-CHUNK : goal.returns-then-head-ge-CHUNK
returns-then-head-ge-CHUNK c =
    judges (sym (head_refused _ _ _ _ (c.is_begun-begun.ensures.0 c.if-not-begun.false) (omega arith)))

pub returns-then-lent-span : goal.returns-then-lent-span
returns-then-lent-span c =
    judges (let l = small (c.is_begun-begun.ensures.0 c.if-not-begun.false) in sym (end_refused _ _ _ _ (c.is_begun-begun.ensures.0 c.if-not-begun.false) (omega arith) (omega arith) (omega arith)))

pub returns : goal.returns
returns c =
    judges (let l = small (c.is_begun-begun.ensures.0 c.if-not-begun.false) in sym (across_fine _ _ _ _ (c.is_begun-begun.ensures.0 c.if-not-begun.false) (omega arith) (omega arith) (omega arith)))
