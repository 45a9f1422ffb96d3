-- `differ_plain`: what was gathered is 0 exactly if the first i words agree.
use lib.ListN.{get_or}
use Rattle.std.specs.Prelude.{map}
use Rattle.laws.proofs.Words.Agree.{Differs}
use Rattle.equal.proofs.differ_plain.Given as goal

abbrev pub invariant-loop-i : goal.invariant-loop-i
invariant-loop-i g l =
    let v = g.T.Word.value in
    Differs (v l.v) l.i (λ j. get_or (map v l.left) j 0) (λ j. get_or (map v l.right) j 0)
