-- `xor` of two words of 64 bits is one.
use native.Mathlib.Nat.{mod-eq_of_lt}
use lib.Bits.{xor_lt}
use Rattle.word.proofs.word.U64Word64.xor.Goals as goal

pub returns : goal.returns
returns c =
    let a = c.args in
    rw (mod-eq_of_lt c.ranges.self.fits, mod-eq_of_lt c.ranges.other.fits) (mod-eq_of_lt (xor_lt 64 a.self a.other c.ranges.self.fits c.ranges.other.fits))
