-- `stores`: a turn takes one field more. Assumes nothing.
use mathlib.Core.Path.{refl}
use native.Mathlib.Omega.{arith}
use Rattle.known.specs.Known.{stored_after}
use Rattle.known.proofs.Turns.{store_more}
use Rattle.known.proofs.taken.stores.Goals as goal

pub loop-i-init : goal.loop-i-init
unfolding stored_after
loop-i-init g c = (omega arith, refl)

pub loop-i-preserved : goal.loop-i-preserved
loop-i-preserved g c =
    let inv = c.loop-i.invariant in (inv.0, store_more g.row.W _ _ _ _ _ _ inv.1 c.field_at-span.ensures c.store.ensures.holds)
