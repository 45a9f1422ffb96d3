-- `write_bit`: the bit is stored as a piece of one bit of its word. Assumes nothing.
use native.Mathlib.Omega.{arith}
use native.Mathlib.Nat.{mod-lt, mul-le-mul_left}
use lib.ListN.{length}
use mathlib.Core.Path.{refl}
use Prim.Native.Nat.{◌+◌}
use Rattle.std.specs.Prelude.{map}
use Rattle.std.proofs.lemmas.List.{length-map}
use Rattle.rules.specs.declared.Significance.TheVariants.{Le}
use Rattle.rules.proofs.Refusals.Accepted.{fine_bit}
use Rattle.rules.proofs.Refusals.OneAnswer.{accepted, declined, gives_passed}
use Rattle.laws.proofs.Fields.SingleBit.{write_refused, write_done, write_piece}
use Rattle.field.proofs.write_bit.Goals as goal

pub overflow_add-t : goal.overflow_add-t
overflow_add-t g c =
    let f = accepted (rw (c.WIDTH.ensures, g.met.T.Word.wide) at c.check_bit.ensures) c.in_ok-check_bit.was in
    let h = fine_bit g.row.W _ _ _ f in
    let i = h.lies in
    omega (arith, h.below, mul-le-mul_left (length c.args.words.now) g.met.T.Word.most)

pub overflow_add-word : goal.overflow_add-word
overflow_add-word g c =
    let f = accepted (rw (c.WIDTH.ensures, g.met.T.Word.wide) at c.check_bit.ensures) c.in_ok-check_bit.was in
    let h = fine_bit g.row.W _ _ _ f in
    let i = h.lies in
    omega (arith, h.word_in)

pub put_piece-requires : goal.put_piece-requires
put_piece-requires g c =
    let a = c.args in
    let f = accepted (rw (c.WIDTH.ensures, g.met.T.Word.wide) at c.check_bit.ensures) c.in_ok-check_bit.was in
    (omega arith, omega (arith, mod-lt (a.span.head.0 + a.index) g.met.T.Word.some), (fine_bit g.row.W _ _ _ f).word_in)

pub returns-in_err-check_bit : goal.returns-in_err-check_bit
returns-in_err-check_bit g c =
    let f = declined (rw (c.WIDTH.ensures, g.met.T.Word.wide) at c.check_bit.ensures) c.in_err-check_bit.was in
    gives_passed _ _ c.from_residual.ensures.1 (write_refused g.row.W _ _ _ _ _ (rw length-map f) refl)

pub returns : goal.returns
returns g c =
    let a = c.args in
    let W = g.row.W in
    let f = accepted (rw (c.WIDTH.ensures, g.met.T.Word.wide) at c.check_bit.ensures) c.in_ok-check_bit.was in
    write_done W (map g.T.Word.value a.words.now) a.span a.index a.bit (rw length-map f)
    (write_piece W (map g.T.Word.value a.words.now) a.span a.index (rw length-map f) a.bit (c.put_piece.ensures Le))
