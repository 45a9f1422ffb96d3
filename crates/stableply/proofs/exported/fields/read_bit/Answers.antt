-- The library's answer leaves. Assumes nothing.
use Rattle.stableply.proofs.exported.fields.read_bit.Goals as goal

pub returns : goal.returns
returns g c = rw (c.read_bit.ensures, c.new-span.ensures) at c.leave_bit.ensures
