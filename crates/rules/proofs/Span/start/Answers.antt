-- `Span::start`: no sum of a word below 65,537 and a head is too large.
use mathlib.Core.Path.{refl}
use Prim.Native.Nat.{ℕ, ◌*◌, ◌≤◌}
use native.Mathlib.Nat.{mul-le-mul}
use native.Mathlib.Omega.{arith}
use Rattle.rules.specs.Positions.{start}
use Rattle.rules.proofs.Span.start.Goals as goal

before : (word width : ℕ) → word ≤ 65536 → word * width ≤ 65536 * width
before word width h = mul-le-mul {n₁ = word} {m₁ = width} {n₂ = 65536} {m₂ = width} h (omega arith)

pub returns : goal.returns
unfolding start
returns c = let b = before c.args.self.word c.args.width c.requires.0 in (refl, omega arith)
