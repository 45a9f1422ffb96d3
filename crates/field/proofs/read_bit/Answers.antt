-- `read_bit`: the bit is a one exactly if its word and its selector have something in common. Assumes nothing.
use native.Mathlib.Omega.{arith}
use native.Mathlib.Nat.{mul-le-mul_left}
use lib.ListN.{length}
use mathlib.Core.Path.{◌∙◌}
use Rattle.std.proofs.lemmas.List.{length-map}
use Rattle.rules.proofs.Refusals.Accepted.{fine_bit}
use Rattle.rules.proofs.Refusals.OneAnswer.{accepted, declined, says_passed}
use Rattle.laws.proofs.Fields.Selectors.{read_selected}
use Rattle.laws.proofs.Fields.SingleBit.{read_refused}
use Rattle.field.proofs.read_bit.Goals as goal

pub overflow_add-t : goal.overflow_add-t
overflow_add-t g c =
    let f = accepted (rw (c.WIDTH.ensures, g.met.T.Word.wide) at c.check_bit.ensures) c.in_ok-check_bit.was in
    let h = fine_bit g.row.W _ _ _ f in
    let i = h.lies in
    omega (arith, h.below, mul-le-mul_left (length c.args.words.now) g.met.T.Word.most)

pub overflow_add-word : goal.overflow_add-word
overflow_add-word g c =
    let f = accepted (rw (c.WIDTH.ensures, g.met.T.Word.wide) at c.check_bit.ensures) c.in_ok-check_bit.was in
    let h = fine_bit g.row.W _ _ _ f in
    let i = h.lies in
    omega (arith, h.word_in)

pub word_at-x-requires : goal.word_at-x-requires
word_at-x-requires g c =
    let f = accepted (rw (c.WIDTH.ensures, g.met.T.Word.wide) at c.check_bit.ensures) c.in_ok-check_bit.was in
    (fine_bit g.row.W _ _ _ f).word_in

pub returns-in_err-check_bit : goal.returns-in_err-check_bit
returns-in_err-check_bit g c =
    let f = declined (rw (c.WIDTH.ensures, g.met.T.Word.wide) at c.check_bit.ensures) c.in_err-check_bit.was in
    says_passed _ _ _ c.from_residual.ensures.1 ∙ read_refused g.row.W _ _ _ _ (rw length-map f)

pub returns : goal.returns
returns g c =
    let f = accepted (rw (c.WIDTH.ensures, g.met.T.Word.wide) at c.check_bit.ensures) c.in_ok-check_bit.was in
    read_selected g.row.W _ _ _ (rw length-map f) (rw (c.WIDTH-2.ensures, g.met.T.Word.wide) at c.position_of-position.ensures).0 c.selector_at-selector.ensures c.word_at-x.ensures.0
