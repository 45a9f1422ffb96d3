-- `pass_down`: the words passed are f, and the block that stops it is not. Assumes nothing.
use Prim.Native.Nat.{◌-◌, ◌≤◌}
use Rattle.std.specs.Prelude.{map}
use Rattle.laws.proofs.Searches.Alike.{Alike}
use Rattle.search.proofs.leaves.pass_down.Given as goal

abbrev pub invariant-loop-i : goal.invariant-loop-i
invariant-loop-i g l = (l.a ≤ l.i) × (l.i ≤ l.e) × Alike (g.T.Word.value l.f) (map g.T.Word.value l.words) l.i l.e

abbrev pub decreases-loop-i : goal.decreases-loop-i
decreases-loop-i g l = l.i - l.a
