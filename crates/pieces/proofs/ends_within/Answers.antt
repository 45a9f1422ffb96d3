-- `ends_within` tests the sum by a difference, of the two that which stays above 0. Assumes nothing.
use Prim.Native.Nat.{◌-◌}
use native.Mathlib.Omega.{arith}
use borrow.Author.Tests.{leb-true, leb-false}
use Rattle.pieces.proofs.ends_within.Goals as goal

pub returns-then-width-eq-CHUNK : goal.returns-then-width-eq-CHUNK
returns-then-width-eq-CHUNK c = let a = c.args in (λ e. omega (arith, leb-true a.head.0 (64 - a.n) e), λ e. omega (arith, leb-false a.head.0 (64 - a.n) e))

pub returns : goal.returns
returns c = let a = c.args in (λ e. omega (arith, leb-true a.n (a.width - a.head.0) e), λ e. omega (arith, leb-false a.n (a.width - a.head.0) e))
