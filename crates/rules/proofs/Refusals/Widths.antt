-- A width is above 0 and at most 64, and what that spares: sums and products of a checked span stay below 2 ^ 64. Assumes nothing.
use Prim.Native.Nat.{ℕ, ◌*◌, ◌^◌, ◌≤◌, ◌<◌}
use native.Mathlib.Omega.{arith}
use lib.Dec.{lit<, lit≤}
use Rattle.rules.specs.Types.{Width, W8, W64}
use Rattle.rules.specs.Bits.{bits}
use Rattle.rules.proofs.Refusals.Room.{product_fits}

pub bits_pos : (w : Width) → 0 < bits w
bits_pos W8 = lit< tt
bits_pos W64 = lit< tt

pub bits_upto : (w : Width) → bits w ≤ 64
bits_upto W8 = lit≤ tt
bits_upto W64 = lit≤ tt

-- the bits of 65,536 words and fewer
pub room_fits : (w : Width) (m : ℕ) → m ≤ 65536 → m * bits w < 2 ^ 64
room_fits w m h = product_fits (bits w) m (omega (arith, bits_upto w)) h
