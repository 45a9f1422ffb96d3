-- `from_i64`: below 0 the flipped bits are -1 - z, else the bits are z.
use mathlib.Core.Path.{ap, ◌∙◌, subst⁻¹}
use native.Mathlib.Omega.{arith}
use lib.IntN.{ℤ, pos, negsuc, nat_abs}
use lib.Signed.{non_neg}
use lib.Dec.{T}
use mir.Syntax.{w64}
use mir.Val.{Fits}
use Rattle.laws.proofs.Bits.Machine.{below, above}
use Rattle.wordless.proofs.numbers.from_i64.Goals as goal

pub overflow_cast-result : goal.overflow_cast-result
overflow_cast-result c = let h = below _ c.ranges.z c.if-z-lt0.true in subst⁻¹ (λ (x : ℤ). T (non_neg x) × Fits w64 (nat_abs x)) h.flipped (tt, record { fits = omega (arith, h) })

pub overflow_cast-result-else-z-lt0 : goal.overflow_cast-result-else-z-lt0
overflow_cast-result-else-z-lt0 c = let h = above _ c.ranges.z c.if-z-lt0.false in subst⁻¹ (λ (x : ℤ). T (non_neg x) × Fits w64 (nat_abs x)) h.same (tt, record { fits = omega (arith, h) })

pub returns-then-z-lt0 : goal.returns-then-z-lt0
returns-then-z-lt0 c = let h = below _ c.ranges.z c.if-z-lt0.true in ap (λ (x : ℤ). negsuc (nat_abs x)) h.flipped ∙ h.is

pub returns-else-z-lt0 : goal.returns-else-z-lt0
returns-else-z-lt0 c = let h = above _ c.ranges.z c.if-z-lt0.false in ap (λ (x : ℤ). pos (nat_abs x)) h.same ∙ h.is
