-- `select` is the merge by its own definition, with the bits under the mask.
use Rattle.laws.proofs.Words.Merged.{selected}
use Rattle.word.proofs.masks.select.Goals as goal

pub returns : goal.returns
unfolding selected
returns g c = rw (c.under.ensures, c.xor.ensures) at c.xor-2.ensures
