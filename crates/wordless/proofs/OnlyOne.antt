-- No second answer satisfies the promise of a call without lent words, as the source states it. Assumes nothing.
use mathlib.Core.Path.{◌≡◌, sym, ◌∙◌}
use Rattle.rules.proofs.Refusals.OneAnswer.{whole_one, one_position, one_selector, one_mask, one_low_bits, one_number_answer, one_machine}
use Rattle.wordless.proofs.orders.position.Reads as position
use Rattle.wordless.proofs.orders.selector.Reads as selector
use Rattle.wordless.proofs.orders.mask.Reads as mask
use Rattle.wordless.proofs.numbers.low_bits.Reads as low_bits
use Rattle.wordless.proofs.numbers.fitting_bits.Reads as fitting_bits
use Rattle.wordless.proofs.numbers.read.Reads as read
use Rattle.wordless.proofs.numbers.to_i64.Reads as to_i64
use Rattle.wordless.proofs.numbers.from_i64.Reads as from_i64

position_only : (κs a r r' x x' : _) → position.Post κs a r x → position.Post κs a r' x' → r ≡ r'
position_only κs a r r' x x' p q = one_position r r' (p ∙ sym q)

selector_only : (κs a r r' x x' : _) → selector.Post κs a r x → selector.Post κs a r' x' → r ≡ r'
selector_only κs a r r' x x' p q = one_selector r r' (p ∙ sym q)

mask_only : (κs a r r' x x' : _) → mask.Post κs a r x → mask.Post κs a r' x' → r ≡ r'
mask_only κs a r r' x x' p q = one_mask r r' (p ∙ sym q)

low_bits_only : (κs a r r' x x' : _) → low_bits.Post κs a r x → low_bits.Post κs a r' x' → r ≡ r'
low_bits_only κs a r r' x x' p q = one_low_bits r r' (p ∙ sym q)

fitting_bits_only : (κs a r r' x x' : _) → fitting_bits.Post κs a r x → fitting_bits.Post κs a r' x' → r ≡ r'
fitting_bits_only κs a r r' x x' p q = one_low_bits r r' (p ∙ sym q)

read_only : (κs a r r' x x' : _) → read.Post κs a r x → read.Post κs a r' x' → r ≡ r'
read_only κs a r r' x x' p q = one_number_answer r r' (p ∙ sym q)

to_i64_only : (κs a r r' x x' : _) → to_i64.Post κs a r x → to_i64.Post κs a r' x' → r ≡ r'
to_i64_only κs a r r' x x' p q = one_machine r r' (p ∙ sym q)

from_i64_only : (κs a r r' x x' : _) → from_i64.Post κs a r x → from_i64.Post κs a r' x' → r ≡ r'
from_i64_only κs a r r' x x' p q = whole_one r r' (p ∙ sym q)
