-- `plain_down`: all but the first i words are moved; a word more is not one that was written.
use mathlib.Core.Path.{◌≡◌}
use Prim.Native.Nat.{◌+◌, ◌-◌, ◌*◌}
use Rattle.std.specs.Prelude.{map}
use Rattle.rules.specs.declared.Order.{Order}
use Rattle.rules.specs.Rows.{moved}
use Rattle.within.proofs.plain_down.Given as goal

abbrev pub invariant-loop-i : goal.invariant-loop-i
invariant-loop-i g l =
    let W = g.row.W in
    let v = g.T.Word.value in
    (o : Order) → map v l.words ≡ moved W o (map v l.initial.words) (l.b * W + 0 + l.i * W) (l.a * W + l.i * W) ((l.k - l.i) * W)
