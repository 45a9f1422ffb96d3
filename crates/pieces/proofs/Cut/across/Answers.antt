-- `Cut::across`: what does not lie in the first word is divided by the width, or is less than a word. Assumes nothing.
use native.Mathlib.Omega.{arith}
use Rattle.laws.proofs.Fields.Cuts.{cut_two, cut_more}
use Rattle.pieces.proofs.Cut.across.Goals as goal

pub returns-then-width-eq-CHUNK : goal.returns-then-width-eq-CHUNK
returns-then-width-eq-CHUNK c = cut_two _ _ _ (omega arith) (omega arith) (omega arith)

pub returns : goal.returns
returns c = cut_more _ _ _ (omega arith) (omega arith)
