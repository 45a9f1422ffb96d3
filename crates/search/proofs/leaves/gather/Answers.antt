-- `gather`: at each turn v is 0 exactly if the words passed are f. Assumes nothing.
use mathlib.Core.Path.{sym, ap, ◌∙◌}
use Rattle.std.specs.Prelude.{map}
use Rattle.std.proofs.lemmas.List.{get_or-map}
use Rattle.laws.proofs.Searches.Alike.{gathered_more}
use Rattle.search.proofs.leaves.gather.Goals as goal

pub loop-x-preserved : goal.loop-x-preserved
loop-x-preserved g c =
    let a = c.args in
    let w = g.T.Word.value in
    let i = c.loop-x.x-index in
    rw (c.or-v.ensures, c.xor.ensures)
    (gathered_more (w a.f) (map w a.words.now) i (w c.loop-x.v) (ap w c.x-item.is ∙ sym (get_or-map w a.words.now i _ 0 c.loop-x-test.true)) c.loop-x.invariant)
