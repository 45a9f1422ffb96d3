-- `differ_plain`: what was gathered is 0 exactly if the first i words agree.
use native.Mathlib.Omega.{arith}
use lib.ListN.{get_or}
use Rattle.std.specs.Prelude.{map}
use Rattle.laws.proofs.Words.Typed.{number_read}
use Rattle.laws.proofs.Words.Agree.{differs_more}
use Rattle.equal.proofs.differ_plain.Goals as goal

pub loop-i-preserved : goal.loop-i-preserved
loop-i-preserved g c =
    let i = c.loop-i.i in
    let v = g.T.Word.value in
    let ws = c.args.left.now in
    let vs = c.args.right.now in
    rw (c.or-v.ensures, c.xor.ensures) (differs_more (v c.loop-i.v) i _ _ (λ j. get_or (map v ws) j 0) (λ j. get_or (map v vs) j 0)
    (number_read v ws i (omega arith) c.index-left-i.is) (number_read v vs i (omega arith) c.index-right-i.is) c.loop-i.invariant)
