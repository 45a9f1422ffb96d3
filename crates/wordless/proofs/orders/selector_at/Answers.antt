-- `selector_at`: a one moved by less than 64 loses nothing.
use lib.Dec.{lit<}
use lib.Pow.{shl_exact}
use native.Mathlib.Nat.{one-mul}
use native.Mathlib.Omega.{arith}
use mathlib.Core.Path.{◌∙◌}
use Rattle.wordless.proofs.orders.selector_at.Goals as goal

pub returns : goal.returns
returns c = shl_exact 1 c.args.at.0 64 (lit< tt) (omega arith) ∙ one-mul _
