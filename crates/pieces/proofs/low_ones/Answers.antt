-- `low_ones`: 64 ones moved down are n ones.
use Rattle.rules.proofs.Bits.Masks.{ones_down}
use Rattle.pieces.proofs.low_ones.Goals as goal

pub returns : goal.returns
returns c = ones_down 64 c.args.n c.requires.1
