-- `room_above` is what 64 bits have above them, by the case of the order. Assumes nothing.
use native.Mathlib.Omega.{arith}
use Rattle.rules.proofs.Fields.Field.{lowest}
use Rattle.pieces.proofs.room_above.Goals as goal

pub returns-in-Lsb0 : goal.returns-in-Lsb0
unfolding lowest
returns-in-Lsb0 c = rw c.in-Lsb0.is

pub returns-in-Msb0 : goal.returns-in-Msb0
unfolding lowest
returns-in-Msb0 c = rw c.in-Msb0.is (omega arith)
