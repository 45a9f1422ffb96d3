-- `gather`: at each turn v is 0 exactly if the words passed are f. Assumes nothing.
use Rattle.std.specs.Prelude.{map}
use Rattle.laws.proofs.Searches.Alike.{Gathered}
use Rattle.search.proofs.leaves.gather.Given as goal

abbrev pub invariant-loop-x : goal.invariant-loop-x
invariant-loop-x g l = Gathered (g.T.Word.value l.f) (map g.T.Word.value l.words) l.x-index (g.T.Word.value l.v)
