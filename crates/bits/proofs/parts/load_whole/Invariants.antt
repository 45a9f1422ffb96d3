-- `load_whole`: what the loop has joined is the number that the words passed are. Assumes nothing.
use mathlib.Core.Path.{◌≡◌}
use Prim.Native.Nat.{◌*◌}
use Rattle.std.specs.Prelude.{map}
use Rattle.rules.specs.declared.Order.{Order}
use Rattle.rules.specs.Fields.{load_of}
use Rattle.bits.proofs.parts.load_whole.Given as goal

abbrev pub invariant-loop-i : goal.invariant-loop-i
invariant-loop-i g l = (o : Order) → l.x ≡ load_of g.row.W o l.significance (map g.T.Word.value l.part) 0 (l.i * g.row.W)
