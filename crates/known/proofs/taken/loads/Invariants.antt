-- `loads`: the mix is that of the fields passed. Assumes nothing.
use mathlib.Core.Path.{◌≡◌}
use Prim.Native.Nat.{◌≤◌}
use lib.ListN.{length}
use Rattle.std.specs.Prelude.{map}
use Rattle.known.specs.Known.{mix_after}
use Rattle.known.proofs.taken.loads.Given as goal

abbrev pub invariant-loop-i : goal.invariant-loop-i
invariant-loop-i g l =
    (length l.places ≤ length l.heads) × (l.mixed ≡ mix_after g.row.W l.k (map g.T.Word.value l.words) l.places l.heads l.i)
