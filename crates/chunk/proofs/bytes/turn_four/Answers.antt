-- `turn_four`: each half turned, the low one above the high one. Assumes nothing.
use mathlib.Core.Path.{◌≡◌, ◌∙◌}
use native.Mathlib.Omega.{arith}
use Rattle.laws.proofs.Fields.Cuts.{joined}
use Rattle.laws.proofs.Fields.Turned.{turned, turned_halves}
use Rattle.chunk.proofs.bytes.turn_four.Goals as goal

is : (c : goal.After-join) → c.join.result ≡ turned 8 2 c.args.x
is c = c.join.ensures ∙ turned_halves 8 1 c.args.x c.turn_two-a.ensures.0 c.turn_two-b.ensures.0

pub returns : goal.returns
unfolding joined
returns c = let e = c.join.ensures in (is c, omega arith)
