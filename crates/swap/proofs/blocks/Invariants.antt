-- `swap::blocks`: the first i bits are exchanged.
use mathlib.Core.Path.{◌≡◌}
use Prim.Native.Nat.{◌+◌, ◌-◌, ◌≤◌}
use Rattle.std.specs.Prelude.{map}
use Rattle.rules.specs.Positions.{row, spliced}
use Rattle.swap.proofs.blocks.Given as goal

abbrev pub invariant-loop-i : goal.invariant-loop-i
invariant-loop-i g l =
    let w = g.row.W in
    let v = g.T.Word.value in
    let ws = map v l.initial.left in
    let vs = map v l.initial.right in
    (l.i ≤ l.len) × (map v l.left ≡ spliced w l.order ws l.d l.i (λ j. row w l.order vs (l.s + j)))
    × (map v l.right ≡ spliced w l.order vs l.s l.i (λ j. row w l.order ws (l.d + j)))

abbrev pub decreases-loop-i : goal.decreases-loop-i
decreases-loop-i g l = l.len - l.i
