-- `joined_next`: all but the first i - 1 words are moved; a word more is joined of the one before it and itself, and neither was written.
use mathlib.Core.Path.{◌≡◌}
use Prim.Native.Nat.{◌+◌, ◌-◌, ◌*◌}
use Rattle.std.specs.Prelude.{map}
use Rattle.rules.specs.Rows.{moved}
use Rattle.within.proofs.joined_next.Given as goal

abbrev pub invariant-loop-i : goal.invariant-loop-i
invariant-loop-i g l =
    let W = g.row.W in
    let v = g.T.Word.value in
    map v l.words ≡ moved W l.order (map v l.initial.words) (l.b * W + l.head.0 + (l.i - 1) * W) ((l.b + 1) * W + (l.i - 1) * W) ((l.k - (l.i - 1)) * W)
