-- No second outcome keeps the promise of a call of `exported`: each call against the promise that its source states, over words of any width. Assumes
-- nothing.
use mathlib.Core.Path.{◌≡◌}
use Rattle.std.specs.Prelude.{map}
use Rattle.border.proofs.OneOutcome.{told_only, found_only, rest_only, wrote_only, swapped_only}
use Rattle.stableply.proofs.exported.unlent.position.Reads as position
use Rattle.stableply.proofs.exported.unlent.selector.Reads as selector
use Rattle.stableply.proofs.exported.unlent.mask.Reads as mask
use Rattle.stableply.proofs.exported.unlent.split.Reads as split
use Rattle.stableply.proofs.exported.fields.read_bit.Reads as read_bit
use Rattle.stableply.proofs.exported.fields.write_bit.Reads as write_bit
use Rattle.stableply.proofs.exported.fields.load.Reads as load
use Rattle.stableply.proofs.exported.fields.store.Reads as store
use Rattle.stableply.proofs.exported.fields.store_strict.Reads as store_strict
use Rattle.stableply.proofs.exported.rows.copy_from.Reads as copy_from
use Rattle.stableply.proofs.exported.rows.copy_within.Reads as copy_within
use Rattle.stableply.proofs.exported.rows.boolean.Reads as boolean
use Rattle.stableply.proofs.exported.rows.swap.Reads as swap
use Rattle.stableply.proofs.exported.rows.equal.Reads as equal
use Rattle.stableply.proofs.exported.searches.first_one.Reads as first_one
use Rattle.stableply.proofs.exported.searches.last_one.Reads as last_one
use Rattle.stableply.proofs.exported.searches.first_zero.Reads as first_zero
use Rattle.stableply.proofs.exported.searches.last_zero.Reads as last_zero

position_only : (κs a r r' x x' : _) → position.Post κs a r x → position.Post κs a r' x' → (r ≡ r') × (x.1.1.1.0.now ≡ x'.1.1.1.0.now)
position_only κs a r r' x x' p q = told_only p q

selector_only : (κs a r r' x x' : _) → selector.Post κs a r x → selector.Post κs a r' x' → (r ≡ r') × (x.1.1.1.0.now ≡ x'.1.1.1.0.now)
selector_only κs a r r' x x' p q = told_only p q

mask_only : (κs a r r' x x' : _) → mask.Post κs a r x → mask.Post κs a r' x' → (r ≡ r') × (x.1.1.1.1.0.now ≡ x'.1.1.1.1.0.now)
mask_only κs a r r' x x' p q = told_only p q

split_only : (κs a r r' x x' : _) → split.Post κs a r x → split.Post κs a r' x' → (r ≡ r') × (x.1.1.1.1.1.1.1.0.now ≡ x'.1.1.1.1.1.1.1.0.now) × (x.1.1.1.1.1.1.1.1.0.now ≡ x'.1.1.1.1.1.1.1.1.0.now) × (x.1.1.1.1.1.1.1.1.1.0.now ≡ x'.1.1.1.1.1.1.1.1.1.0.now)
split_only κs a r r' x x' p q = rest_only p q

read_bit_only : (T W l s c h d k e κs a r r' x x' : _) → read_bit.Post T W l s c h d k e κs a r x → read_bit.Post T W l s c h d k e κs a r' x'
    → (r ≡ r') × (x.1.1.1.1.1.1.0.now ≡ x'.1.1.1.1.1.1.0.now)
read_bit_only T W l s c h d k e κs a r r' x x' p q = told_only p q

write_bit_only : (T W l s c h d k e κs a r r' x x' : _) → write_bit.Post T W l s c h d k e κs a r x → write_bit.Post T W l s c h d k e κs a r' x'
    → (r ≡ r') × (map h.value x.0.now ≡ map h.value x'.0.now)
write_bit_only T W l s c h d k e κs a r r' x x' p q = wrote_only p q

load_only : (T W l s c u v h d k e κs a r r' x x' : _) → load.Post T W l s c u v h d k e κs a r x → load.Post T W l s c u v h d k e κs a r' x'
    → (r ≡ r') × (x.1.1.1.1.1.1.1.1.0.now ≡ x'.1.1.1.1.1.1.1.1.0.now)
load_only T W l s c u v h d k e κs a r r' x x' p q = told_only p q

store_only : (T W l s c u v h d k e κs a r r' x x' : _) → store.Post T W l s c u v h d k e κs a r x → store.Post T W l s c u v h d k e κs a r' x'
    → (r ≡ r') × (map h.value x.0.now ≡ map h.value x'.0.now)
store_only T W l s c u v h d k e κs a r r' x x' p q = wrote_only p q

store_strict_only : (T W l s c u v h d k e κs a r r' x x' : _) → store_strict.Post T W l s c u v h d k e κs a r x → store_strict.Post T W l s c u v h d k e κs a r' x'
    → (r ≡ r') × (map h.value x.0.now ≡ map h.value x'.0.now)
store_strict_only T W l s c u v h d k e κs a r r' x x' p q = wrote_only p q

copy_from_only : (T W l s c h d k e κs a r r' x x' : _) → copy_from.Post T W l s c h d k e κs a r x → copy_from.Post T W l s c h d k e κs a r' x'
    → (r ≡ r') × (map h.value x.0.now ≡ map h.value x'.0.now)
copy_from_only T W l s c h d k e κs a r r' x x' p q = wrote_only p q

copy_within_only : (T W l s c h d k e κs a r r' x x' : _) → copy_within.Post T W l s c h d k e κs a r x → copy_within.Post T W l s c h d k e κs a r' x'
    → (r ≡ r') × (map h.value x.0.now ≡ map h.value x'.0.now)
copy_within_only T W l s c h d k e κs a r r' x x' p q = wrote_only p q

boolean_only : (T W l s c h d k e κs a r r' x x' : _) → boolean.Post T W l s c h d k e κs a r x → boolean.Post T W l s c h d k e κs a r' x'
    → (r ≡ r') × (map h.value x.0.now ≡ map h.value x'.0.now)
boolean_only T W l s c h d k e κs a r r' x x' p q = wrote_only p q

swap_only : (T W l s c h d k e κs a r r' x x' : _) → swap.Post T W l s c h d k e κs a r x → swap.Post T W l s c h d k e κs a r' x'
    → (r ≡ r') × (map h.value x.0.now ≡ map h.value x'.0.now) × (map h.value x.1.1.1.1.1.0.now ≡ map h.value x'.1.1.1.1.1.0.now)
swap_only T W l s c h d k e κs a r r' x x' p q = swapped_only p q

equal_only : (T W l s c h d k e κs a r r' x x' : _) → equal.Post T W l s c h d k e κs a r x → equal.Post T W l s c h d k e κs a r' x'
    → (r ≡ r') × (x.1.1.1.1.1.1.1.1.1.1.0.now ≡ x'.1.1.1.1.1.1.1.1.1.1.0.now)
equal_only T W l s c h d k e κs a r r' x x' p q = told_only p q

first_one_only : (T W l s c h d k e κs a r r' x x' : _) → first_one.Post T W l s c h d k e κs a r x → first_one.Post T W l s c h d k e κs a r' x'
    → (r ≡ r') × (x.1.1.1.1.1.0.now ≡ x'.1.1.1.1.1.0.now) × (x.1.1.1.1.1.1.0.now ≡ x'.1.1.1.1.1.1.0.now)
first_one_only T W l s c h d k e κs a r r' x x' p q = found_only p q

last_one_only : (T W l s c h d k e κs a r r' x x' : _) → last_one.Post T W l s c h d k e κs a r x → last_one.Post T W l s c h d k e κs a r' x'
    → (r ≡ r') × (x.1.1.1.1.1.0.now ≡ x'.1.1.1.1.1.0.now) × (x.1.1.1.1.1.1.0.now ≡ x'.1.1.1.1.1.1.0.now)
last_one_only T W l s c h d k e κs a r r' x x' p q = found_only p q

first_zero_only : (T W l s c h d k e κs a r r' x x' : _) → first_zero.Post T W l s c h d k e κs a r x → first_zero.Post T W l s c h d k e κs a r' x'
    → (r ≡ r') × (x.1.1.1.1.1.0.now ≡ x'.1.1.1.1.1.0.now) × (x.1.1.1.1.1.1.0.now ≡ x'.1.1.1.1.1.1.0.now)
first_zero_only T W l s c h d k e κs a r r' x x' p q = found_only p q

last_zero_only : (T W l s c h d k e κs a r r' x x' : _) → last_zero.Post T W l s c h d k e κs a r x → last_zero.Post T W l s c h d k e κs a r' x'
    → (r ≡ r') × (x.1.1.1.1.1.0.now ≡ x'.1.1.1.1.1.0.now) × (x.1.1.1.1.1.1.0.now ≡ x'.1.1.1.1.1.1.0.now)
last_zero_only T W l s c h d k e κs a r r' x x' p q = found_only p q
