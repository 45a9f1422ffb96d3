-- The library's answer leaves. Assumes nothing.
use Rattle.stableply.proofs.exported.unlent.split.Goals as goal

pub returns : goal.returns
returns c = rw (c.split.ensures, c.new-span.ensures) at c.leave_rest.ensures
