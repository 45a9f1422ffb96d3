-- No second verdict satisfies the promise of a check, as the source states it. Assumes nothing.
use mathlib.Core.Path.{◌≡◌, sym, ◌∙◌}
use Rattle.rules.proofs.Refusals.OneAnswer.{only_verdict}
use Rattle.refusals.proofs.fields.check_bit.Reads as check_bit
use Rattle.refusals.proofs.fields.check_load.Reads as check_load
use Rattle.refusals.proofs.fields.check_store.Reads as check_store
use Rattle.refusals.proofs.fields.check_store_strict.Reads as check_store_strict
use Rattle.refusals.proofs.rows.check_pair.Reads as check_pair
use Rattle.refusals.proofs.rows.check_copy.Reads as check_copy
use Rattle.refusals.proofs.rows.check_copy_within.Reads as check_copy_within
use Rattle.refusals.proofs.values.is_size.Reads as is_size
use Rattle.refusals.proofs.values.check_field.Reads as check_field
use Rattle.refusals.proofs.values.check_value.Reads as check_value
use Rattle.refusals.proofs.values.check_fit.Reads as check_fit

check_bit_only : (κs a r r' x x' : _) → check_bit.Post κs a r x → check_bit.Post κs a r' x' → r ≡ r'
check_bit_only κs a r r' x x' p q = only_verdict p q

check_load_only : (κs a r r' x x' : _) → check_load.Post κs a r x → check_load.Post κs a r' x' → r ≡ r'
check_load_only κs a r r' x x' p q = only_verdict p q

check_store_only : (κs a r r' x x' : _) → check_store.Post κs a r x → check_store.Post κs a r' x' → r ≡ r'
check_store_only κs a r r' x x' p q = only_verdict p q

check_store_strict_only : (κs a r r' x x' : _) → check_store_strict.Post κs a r x → check_store_strict.Post κs a r' x' → r ≡ r'
check_store_strict_only κs a r r' x x' p q = only_verdict p q

check_pair_only : (κs a r r' x x' : _) → check_pair.Post κs a r x → check_pair.Post κs a r' x' → r ≡ r'
check_pair_only κs a r r' x x' p q = only_verdict p q

check_copy_only : (κs a r r' x x' : _) → check_copy.Post κs a r x → check_copy.Post κs a r' x' → r ≡ r'
check_copy_only κs a r r' x x' p q = only_verdict p q

check_copy_within_only : (κs a r r' x x' : _) → check_copy_within.Post κs a r x → check_copy_within.Post κs a r' x' → r ≡ r'
check_copy_within_only κs a r r' x x' p q = only_verdict p q

is_size_only : (κs a r r' x x' : _) → is_size.Post κs a r x → is_size.Post κs a r' x' → r ≡ r'
is_size_only κs a r r' x x' p q = p ∙ sym q

check_field_only : (κs a r r' x x' : _) → check_field.Post κs a r x → check_field.Post κs a r' x' → r ≡ r'
check_field_only κs a r r' x x' p q = only_verdict p q

check_value_only : (κs a r r' x x' : _) → check_value.Post κs a r x → check_value.Post κs a r' x' → r ≡ r'
check_value_only κs a r r' x x' p q = only_verdict p q

check_fit_only : (κs a r r' x x' : _) → check_fit.Post κs a r x → check_fit.Post κs a r' x' → r ≡ r'
check_fit_only κs a r r' x x' p q = only_verdict p q
