-- `copy::funnel_words`: below i each word is joined of two of the source's.
use Prim.Native.Nat.{◌+◌}
use native.Mathlib.Omega.{arith}
use lib.ListN.{get_or}
use Rattle.std.specs.Prelude.{map}
use Rattle.std.proofs.lemmas.List.{length-map, map-set}
use Rattle.laws.proofs.Words.Funnel.{funneled}
use Rattle.laws.proofs.Words.Typed.{number_read}
use Rattle.laws.proofs.Rows.Filled.{filled_more}
use Rattle.copy.proofs.funnel_words.Goals as goal

pub loop-i-preserved : goal.loop-i-preserved
loop-i-preserved g c =
    let l = c.loop-i in
    let a = c.args in
    let v = g.T.Word.value in
    let s = a.source.now in
    let vs = map v s in
    rw (map-set v l.words l.i c.joined.result) (filled_more (map v l.words) l.i (v c.joined.result) (λ k. funneled g.row.W a.order a.head.0 (get_or vs k 0) (get_or vs (k + 1) 0))
    (rw length-map (omega arith)) l.invariant
    (rw (number_read v s l.i (omega arith) c.index-source-i.is, number_read v s (l.i + 1) (omega arith) c.index-source-i-in-loop-i.is) at c.joined.ensures))
