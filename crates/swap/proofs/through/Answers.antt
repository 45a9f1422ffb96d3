-- `swap::through`: so many scratch words take few bytes.
use native.Mathlib.Nat.{mul-le-mul}
use native.Mathlib.Omega.{arith}
use Rattle.swap.proofs.through.Goals as goal

pub whole_as_slice-block : goal.whole_as_slice-block
whole_as_slice-block g c = let h = mul-le-mul c.requires.5 g.met.T.Word.small in omega (arith, h)

pub whole_as_slice-blocks : goal.whole_as_slice-blocks
whole_as_slice-blocks g c = let h = mul-le-mul c.requires.7 g.met.T.Word.small in omega (arith, h)
