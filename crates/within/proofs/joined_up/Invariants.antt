-- `joined_up`: the first i words are moved; a word more is joined of two that were not written.
use mathlib.Core.Path.{◌≡◌}
use Prim.Native.Nat.{◌+◌, ◌*◌}
use Rattle.std.specs.Prelude.{map}
use Rattle.rules.specs.Rows.{moved}
use Rattle.within.proofs.joined_up.Given as goal

abbrev pub invariant-loop-i : goal.invariant-loop-i
invariant-loop-i g l =
    let W = g.row.W in
    let v = g.T.Word.value in
    map v l.words ≡ moved W l.order (map v l.initial.words) (l.b * W + l.head.0) (l.a * W) (l.i * W)
