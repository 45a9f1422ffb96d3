-- `spread`: a bit is 0 or not.
use mathlib.Core.Path.{◌∙◌}
use native.Mathlib.Nat.{zero-mod}
use Rattle.rules.specs.Bits.{bit_n}
use Rattle.laws.proofs.Words.Typed.{all_ones}
use Rattle.laws.proofs.Words.Combine.{spread_zero, spread_one}
use Rattle.combine.proofs.spread.Goals as goal

pub returns-then-bit-eq0 : goal.returns-then-bit-eq0
unfolding bit_n
returns-then-bit-eq0 g c = c.of.ensures ∙ zero-mod _ ∙ spread_zero g.row.W _ c.if-bit-eq0.true

pub returns-else-bit-eq0 : goal.returns-else-bit-eq0
unfolding bit_n
returns-else-bit-eq0 g c = c.of-else-bit-eq0.ensures ∙ all_ones g.T.Word.WIDTH g.row.W g.met.T.Word.wide ∙ spread_one g.row.W _ c.if-bit-eq0.false
