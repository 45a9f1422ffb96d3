-- No second answer satisfies the promise of a search, as its source states it, whatever the words. Assumes nothing.
use mathlib.Core.Path.{◌≡◌, sym, ◌∙◌}
use Rattle.rules.proofs.Refusals.OneAnswer.{one_search}
use Rattle.search.proofs.first_one.Reads as first_one
use Rattle.search.proofs.last_one.Reads as last_one
use Rattle.search.proofs.first_zero.Reads as first_zero
use Rattle.search.proofs.last_zero.Reads as last_zero

first_one_only : (T W l s c h d k e κs a r r' x x' : _) → first_one.Post T W l s c h d k e κs a r x → first_one.Post T W l s c h d k e κs a r' x' → r ≡ r'
first_one_only T W l s c h d k e κs a r r' x x' p q = one_search r r' (p ∙ sym q)

last_one_only : (T W l s c h d k e κs a r r' x x' : _) → last_one.Post T W l s c h d k e κs a r x → last_one.Post T W l s c h d k e κs a r' x' → r ≡ r'
last_one_only T W l s c h d k e κs a r r' x x' p q = one_search r r' (p ∙ sym q)

first_zero_only : (T W l s c h d k e κs a r r' x x' : _) → first_zero.Post T W l s c h d k e κs a r x → first_zero.Post T W l s c h d k e κs a r' x' → r ≡ r'
first_zero_only T W l s c h d k e κs a r r' x x' p q = one_search r r' (p ∙ sym q)

last_zero_only : (T W l s c h d k e κs a r r' x x' : _) → last_zero.Post T W l s c h d k e κs a r x → last_zero.Post T W l s c h d k e κs a r' x' → r ≡ r'
last_zero_only T W l s c h d k e κs a r r' x x' p q = one_search r r' (p ∙ sym q)
