-- `copy::plain_words`: below i each word is the source's.
use native.Mathlib.Omega.{arith}
use lib.ListN.{get_or}
use Rattle.std.specs.Prelude.{map}
use Rattle.std.proofs.lemmas.List.{length-map, map-set}
use Rattle.laws.proofs.Words.Typed.{number_read}
use Rattle.laws.proofs.Rows.Filled.{filled_more}
use Rattle.copy.proofs.plain_words.Goals as goal

pub loop-i-preserved : goal.loop-i-preserved
loop-i-preserved g c =
    let l = c.loop-i in
    let v = g.T.Word.value in
    let s = c.args.source.now in
    let x = c.index-source-i.result in
    rw (map-set v l.words l.i x) (filled_more (map v l.words) l.i (v x) (λ k. get_or (map v s) k 0)
    (rw length-map (omega arith)) l.invariant (number_read v s l.i (omega arith) c.index-source-i.is))
