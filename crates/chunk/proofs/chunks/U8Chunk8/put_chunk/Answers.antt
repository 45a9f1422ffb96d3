-- `put_chunk`: a chunk is eight words, of the significance of the arm. Assumes nothing.
use Rattle.rules.specs.declared.Order.TheVariants.{Lsb0, Msb0}
use Rattle.laws.proofs.Fields.Chunk.{own}
use Rattle.chunk.proofs.chunks.U8Chunk8.put_chunk.Goals as goal

pub returns-in-Lsb0 : goal.returns-in-Lsb0
unfolding own
returns-in-Lsb0 c = rw c.in-Lsb0.is (c.put_eight.ensures Lsb0)

pub returns-in-Msb0 : goal.returns-in-Msb0
unfolding own
returns-in-Msb0 c = rw c.in-Msb0.is (c.put_eight-in-Msb0.ensures Msb0)
