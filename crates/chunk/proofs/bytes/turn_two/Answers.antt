-- `turn_two`: the low byte above the high one. Assumes nothing.
use mathlib.Core.Path.{refl, ◌∙◌}
use native.Mathlib.Omega.{arith}
use lib.Bits.{mask_lt}
use Rattle.laws.proofs.Fields.Cuts.{joined}
use Rattle.laws.proofs.Fields.Turned.{turned, turned_halves}
use Rattle.chunk.proofs.bytes.turn_two.Goals as goal

pub returns : goal.returns
unfolding joined turned
returns c =
    let x = c.args.x in
    let e = c.join.ensures in
    (e ∙ turned_halves 8 0 x refl refl, omega (arith, e, mask_lt x 8))
