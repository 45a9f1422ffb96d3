-- `turn_eight`: each half turned, the low one above the high one. Assumes nothing.
use mathlib.Core.Path.{◌∙◌}
use Rattle.laws.proofs.Fields.Turned.{turned_halves}
use Rattle.chunk.proofs.bytes.turn_eight.Goals as goal

pub returns : goal.returns
returns c = c.join.ensures ∙ turned_halves 8 2 c.args.x c.turn_four-a.ensures.0 c.turn_four-b.ensures.0
