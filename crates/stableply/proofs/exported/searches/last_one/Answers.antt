-- The library's answer leaves. Assumes nothing.
use Rattle.stableply.proofs.exported.searches.last_one.Goals as goal

pub returns : goal.returns
returns g c = rw (c.last_one.ensures, c.new-span.ensures) at c.leave_found.ensures
