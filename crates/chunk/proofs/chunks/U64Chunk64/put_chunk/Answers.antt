-- `put_chunk`: a chunk is one word. Assumes nothing.
use native.Mathlib.Omega.{arith}
use native.Mathlib.Nat.{mod-lt}
use mathlib.Core.Path.{◌∙◌}
use lib.Dec.{lit<}
use lib.Pow.{pow_pos}
use Rattle.std.proofs.lemmas.List.{length-map}
use Rattle.laws.proofs.Fields.Chunk.{own}
use Rattle.laws.proofs.Words.Typed.{row_below}
use Rattle.laws.proofs.Words.Wholes.{store_word}
use Rattle.chunk.proofs.chunks.U64Chunk64.put_chunk.Goals as goal

pub returns : goal.returns
returns c = let a = c.args in
    c.put_word.ensures
    ∙ store_word 64 (lit< tt) a._order (own a._order) _ (row_below _ 64 (λ x. mod-lt x (pow_pos 64)) a.words.now) a.at (rw length-map (omega arith)) a.v
