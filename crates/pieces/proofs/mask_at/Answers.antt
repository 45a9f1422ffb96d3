-- `mask_at`: n ones moved up to the position lose nothing, since they end with 64.
use mathlib.Core.Path.{ap, ◌∙◌}
use Prim.Native.Nat.{ℕ, ◌*◌, ◌^◌, ◌%◌}
use native.Mathlib.Omega.{arith}
use lib.Pow.{shl_exact, ones_lt}
use Rattle.pieces.proofs.mask_at.Goals as goal

pub returns : goal.returns
returns c = let a = c.args in
    ap (λ (x : ℕ). x * 2 ^ a.lowest.0 % 2 ^ 64) c.low_ones-ones.ensures ∙ shl_exact a.n a.lowest.0 64 (ones_lt a.n) (omega arith)
