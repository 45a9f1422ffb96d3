-- `to_i64`: up to 2 ^ 63 - 1 the machine's integer has the number's bits, or flipped ones; above it the table refuses 8.
use native.Mathlib.Omega.{arith}
use Rattle.laws.proofs.Bits.Machine.{up_fits, up_bits, down_bits, up_given, down_given, up_refused, down_refused}
use Rattle.wordless.proofs.numbers.to_i64.Goals as goal

pub overflow_cast-result : goal.overflow_cast-result
overflow_cast-result c = up_fits _ (omega arith)

pub overflow_cast-result-then-n-le9223372036854775807-2 : goal.overflow_cast-result-then-n-le9223372036854775807-2
overflow_cast-result-then-n-le9223372036854775807-2 c = up_fits _ (omega arith)

pub returns-then-n-le9223372036854775807 : goal.returns-then-n-le9223372036854775807
returns-then-n-le9223372036854775807 c = rw c.in-Up.is (up_given _ (omega arith) (up_bits _ (omega arith)))

pub returns-else-n-le9223372036854775807 : goal.returns-else-n-le9223372036854775807
returns-else-n-le9223372036854775807 c = rw c.in-Up.is (up_refused _ (omega arith))

pub returns-then-n-le9223372036854775807-2 : goal.returns-then-n-le9223372036854775807-2
returns-then-n-le9223372036854775807-2 c = rw c.in-Down.is (down_given _ (omega arith) (down_bits _ (omega arith)))

pub returns-else-n-le9223372036854775807-2 : goal.returns-else-n-le9223372036854775807-2
returns-else-n-le9223372036854775807-2 c = rw c.in-Down.is (down_refused _ (omega arith))
