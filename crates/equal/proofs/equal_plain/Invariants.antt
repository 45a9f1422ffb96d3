-- `equal_plain`: what both sides have left begins at one place, and the words below it agree.
use mathlib.Core.Path.{◌≡◌}
use Prim.Native.Nat.{◌≤◌, ◌-◌}
use lib.ListN.{length, get_or, drop}
use Rattle.std.specs.Prelude.{map}
use Rattle.laws.proofs.Words.Agree.{Agree}
use Rattle.equal.proofs.equal_plain.Given as goal

abbrev pub invariant-loop-ours : goal.invariant-loop-ours
invariant-loop-ours g l =
    let v = g.T.Word.value in
    let i = length l.left - length l.ours in
    (l.ours ≡ drop i l.left) × (l.theirs ≡ drop i l.right) × (length l.ours ≤ length l.left) × Agree i (λ j. get_or (map v l.left) j 0) (λ j. get_or (map v l.right) j 0)

abbrev pub decreases-loop-ours : goal.decreases-loop-ours
decreases-loop-ours g l = length l.ours
