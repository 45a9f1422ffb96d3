-- `store_whole`: the words passed hold the first bits of the number, the others are as they were. Assumes nothing.
use mathlib.Core.Path.{◌≡◌}
use Prim.Native.Nat.{◌-◌, ◌*◌}
use Rattle.std.specs.Prelude.{map}
use Rattle.rules.specs.declared.Order.{Order}
use Rattle.rules.specs.Fields.{store_of}
use Rattle.laws.proofs.Fields.Cuts.{first_of_value}
use Rattle.bits.proofs.parts.store_whole.Given as goal

abbrev pub invariant-loop-i : goal.invariant-loop-i
invariant-loop-i g l =
    let W = g.row.W in
    let ws = map g.T.Word.value l.initial.part in
    (o : Order) → map g.T.Word.value l.part ≡ store_of W o l.significance ws 0 (l.i * W) (first_of_value l.significance l.v ((l.n - l.i) * W))
