-- No second answer satisfies the promise of a method of these types, as the source states it. Assumes nothing.
use mathlib.Core.Path.{◌≡◌, sym, ◌∙◌}
use Rattle.rules.proofs.Refusals.OneAnswer.{only_verdict, one_split, one_span}
use Rattle.rules.proofs.Span.new.Reads as new
use Rattle.rules.proofs.Span.check.Reads as check
use Rattle.rules.proofs.Span.check_place.Reads as check_place
use Rattle.rules.proofs.Span.split.Reads as split
use Rattle.rules.proofs.Span.shorten.Reads as shorten
use Rattle.rules.proofs.Span.shift.Reads as shift
use Rattle.rules.proofs.Width.bits.Reads as bits
use Rattle.rules.proofs.Refusal.number.Reads as refusal_number
use Rattle.rules.proofs.Operation.number.Reads as operation_number

new_only : (κs a r r' x x' : _) → new.Post κs a r x → new.Post κs a r' x' → r ≡ r'
new_only κs a r r' x x' p q = p ∙ sym q

check_only : (κs a r r' x x' : _) → check.Post κs a r x → check.Post κs a r' x' → r ≡ r'
check_only κs a r r' x x' p q = only_verdict p q

check_place_only : (κs a r r' x x' : _) → check_place.Post κs a r x → check_place.Post κs a r' x' → r ≡ r'
check_place_only κs a r r' x x' p q = only_verdict p q

split_only : (κs a r r' x x' : _) → split.Post κs a r x → split.Post κs a r' x' → r ≡ r'
split_only κs a r r' x x' p q = one_split r r' (p ∙ sym q)

shorten_only : (κs a r r' x x' : _) → shorten.Post κs a r x → shorten.Post κs a r' x' → r ≡ r'
shorten_only κs a r r' x x' p q = one_span r r' (p ∙ sym q)

shift_only : (κs a r r' x x' : _) → shift.Post κs a r x → shift.Post κs a r' x' → r ≡ r'
shift_only κs a r r' x x' p q = one_span r r' (p ∙ sym q)

bits_only : (κs a r r' x x' : _) → bits.Post κs a r x → bits.Post κs a r' x' → r ≡ r'
bits_only κs a r r' x x' p q = p ∙ sym q

refusal_number_only : (κs a r r' x x' : _) → refusal_number.Post κs a r x → refusal_number.Post κs a r' x' → r ≡ r'
refusal_number_only κs a r r' x x' p q = p ∙ sym q

operation_number_only : (κs a r r' x x' : _) → operation_number.Post κs a r x → operation_number.Post κs a r' x' → r ≡ r'
operation_number_only κs a r r' x x' p q = p ∙ sym q
