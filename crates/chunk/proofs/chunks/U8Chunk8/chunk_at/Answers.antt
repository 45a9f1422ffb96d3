-- `chunk_at`: a chunk is eight words by le, turned for be. Assumes nothing.
use mathlib.Core.Path.{ap, ◌∙◌}
use Prim.Native.Nat.{◌*◌}
use lib.Dec.{lit<}
use Rattle.rules.specs.declared.Order.TheVariants.{Lsb0, Msb0}
use Rattle.rules.specs.declared.Significance.TheVariants.{Be}
use Rattle.laws.proofs.Fields.Chunk.{own}
use Rattle.laws.proofs.Fields.Cuts.{load_fits}
use Rattle.laws.proofs.Fields.Turned.{turned, turned_load}
use Rattle.chunk.proofs.chunks.U8Chunk8.chunk_at.Goals as goal

pub returns-in-Lsb0 : goal.returns-in-Lsb0
unfolding own
returns-in-Lsb0 c = rw c.in-Lsb0.is (c.eight_at.ensures.0 Lsb0, c.eight_at.ensures.1)

pub returns-in-Msb0 : goal.returns-in-Msb0
unfolding own
returns-in-Msb0 c =
    let a = c.args in
    rw c.in-Msb0.is
    (load_fits 8 (lit< tt) Msb0 Be _ (a.at * 8) 64 (c.turn_eight.ensures ∙ ap (turned 8 3) (c.eight_at-x.ensures.0 Msb0) ∙ turned_load 8 (lit< tt) Msb0 _ 3 a.at))
