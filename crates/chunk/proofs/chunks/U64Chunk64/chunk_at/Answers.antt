-- `chunk_at`: a chunk is one word. Assumes nothing.
use mathlib.Core.Path.{sym, ◌∙◌}
use native.Mathlib.Nat.{mod-lt}
use lib.Dec.{lit<}
use lib.Pow.{pow_pos}
use Rattle.laws.proofs.Fields.Chunk.{own}
use Rattle.laws.proofs.Words.Typed.{row_below}
use Rattle.laws.proofs.Words.Wholes.{load_word}
use Rattle.chunk.proofs.chunks.U64Chunk64.chunk_at.Goals as goal

pub returns : goal.returns
returns c = let a = c.args in
    (c.word_at.ensures.0 ∙ sym (load_word 64 (lit< tt) a._order (own a._order) _ (row_below _ 64 (λ x. mod-lt x (pow_pos 64)) a.words.now) a.at), c.word_at.ensures.1)
