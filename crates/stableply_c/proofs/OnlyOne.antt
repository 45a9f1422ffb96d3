-- No second outcome keeps the promise of an exported call without words: each call against the promise that its source states. Assumes nothing.
use mathlib.Core.Path.{◌≡◌}
use Rattle.border.proofs.OneOutcome.{told_only, rest_only}
use Rattle.stableply_c.proofs.unlent.stableply_position.Reads as stableply_position
use Rattle.stableply_c.proofs.unlent.stableply_selector.Reads as stableply_selector
use Rattle.stableply_c.proofs.unlent.stableply_mask.Reads as stableply_mask
use Rattle.stableply_c.proofs.unlent.stableply_split.Reads as stableply_split

stableply_position_only : (κs a r r' x x' : _) → stableply_position.Post κs a r x → stableply_position.Post κs a r' x' → (r ≡ r') × (x.1.1.1.0.now ≡ x'.1.1.1.0.now)
stableply_position_only κs a r r' x x' p q = told_only p q

stableply_selector_only : (κs a r r' x x' : _) → stableply_selector.Post κs a r x → stableply_selector.Post κs a r' x' → (r ≡ r') × (x.1.1.1.0.now ≡ x'.1.1.1.0.now)
stableply_selector_only κs a r r' x x' p q = told_only p q

stableply_mask_only : (κs a r r' x x' : _) → stableply_mask.Post κs a r x → stableply_mask.Post κs a r' x' → (r ≡ r') × (x.1.1.1.1.0.now ≡ x'.1.1.1.1.0.now)
stableply_mask_only κs a r r' x x' p q = told_only p q

stableply_split_only : (κs a r r' x x' : _) → stableply_split.Post κs a r x → stableply_split.Post κs a r' x' → (r ≡ r') × (x.1.1.1.1.1.1.1.0.now ≡ x'.1.1.1.1.1.1.1.0.now) × (x.1.1.1.1.1.1.1.1.0.now ≡ x'.1.1.1.1.1.1.1.1.0.now) × (x.1.1.1.1.1.1.1.1.1.0.now ≡ x'.1.1.1.1.1.1.1.1.1.0.now)
stableply_split_only κs a r r' x x' p q = rest_only p q
