-- `stores`: the words are those that the stores of the fields passed leave. Assumes nothing.
use mathlib.Core.Path.{◌≡◌}
use Prim.Native.Nat.{◌≤◌}
use lib.ListN.{length}
use Rattle.std.specs.Prelude.{map}
use Rattle.known.specs.Known.{stored_after}
use Rattle.known.proofs.taken.stores.Given as goal

abbrev pub invariant-loop-i : goal.invariant-loop-i
invariant-loop-i g l =
    (length l.places ≤ length l.heads)
    × (map g.T.Word.value l.words ≡ stored_after g.row.W l.k l.value (map g.T.Word.value l.initial.words) l.places l.heads l.i)
