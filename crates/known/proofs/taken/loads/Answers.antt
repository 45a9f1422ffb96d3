-- `loads`: a turn takes one field more. Assumes nothing.
use mathlib.Core.Path.{refl}
use native.Mathlib.Omega.{arith}
use Rattle.known.specs.Known.{mix_after}
use Rattle.known.proofs.Turns.{load_more}
use Rattle.known.proofs.taken.loads.Goals as goal

pub loop-i-init : goal.loop-i-init
unfolding mix_after
loop-i-init g c = (omega arith, refl)

pub loop-i-preserved : goal.loop-i-preserved
loop-i-preserved g c =
    let inv = c.loop-i.invariant in
    (inv.0, load_more g.row.W _ _ _ _ _ inv.1 c.field_at-span.ensures c.load-answer.ensures c.unsigned.ensures c.mix_in-mixed.ensures)
