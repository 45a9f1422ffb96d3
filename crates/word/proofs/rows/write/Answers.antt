-- `write`: the numbers of a row with one word made anew.
use Rattle.std.proofs.lemmas.List.{map-set}
use Rattle.word.proofs.rows.write.Goals as goal

pub returns : goal.returns
returns g c = map-set g.T.Word.value _ _ _
