-- What the library's call promises. Assumes nothing.
use Rattle.stableply_c.proofs.unlent.stableply_split.Goals as goal

pub returns : goal.returns
returns c = c.split.ensures
