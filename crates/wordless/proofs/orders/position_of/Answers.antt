-- `position_of`: by cases on the order, as the definition goes; the position stays below the width.
use native.Mathlib.Omega.{arith}
use Rattle.rules.specs.Positions.{position}
use mathlib.Core.Path.{refl}
use Rattle.wordless.proofs.orders.position_of.Goals as goal

pub returns-in-Lsb0 : goal.returns-in-Lsb0
unfolding position
returns-in-Lsb0 c = rw c.in-Lsb0.is (refl, c.requires)

pub returns-in-Msb0 : goal.returns-in-Msb0
unfolding position
returns-in-Msb0 c = rw (c.in-Msb0.is, c.bits.ensures) (refl, omega (arith, c.requires))
