-- No second answer keeps the promise of `equal`, as the source states it, whatever the words. Assumes nothing.
use mathlib.Core.Path.{◌≡◌, sym, ◌∙◌}
use Rattle.rules.proofs.Refusals.OneAnswer.{one_equal}
use Rattle.equal.proofs.equal.Reads as equal

equal_only : (T W l s c h d k e κs a r r' x x' : _) → equal.Post T W l s c h d k e κs a r x → equal.Post T W l s c h d k e κs a r' x' → r ≡ r'
equal_only T W l s c h d k e κs a r r' x x' p q = one_equal r r' (p ∙ sym q)
