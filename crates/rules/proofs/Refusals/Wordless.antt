-- The answers of the calls without lent words, from the tests that code makes. Assumes nothing.
use Prim.Native.Nat.{ℕ, ◌-◌, ◌%◌, ◌^◌, ◌≤◌, ◌<◌}
use mathlib.Core.Path.{◌≡◌, sym, ap, ap₂, ◌∙◌}
use mathlib.Core.Bool.{or-true}
use native.Mathlib.Omega.{arith}
use borrow.Author.Tests.{le-leb, lt-leb, lt-ltb, le-ltb}
use lib.Dec.{ltb}
use lib.Bits.{bit_and, and_mask}
use Rattle.rules.specs.Types.{Order, Lsb0, Msb0}
use Rattle.rules.specs.Positions.{position, selector, mask}
use Rattle.rules.specs.Refusals.{verdict, index_cases, mask_cases}
use Rattle.rules.specs.Calls.{refused, a_position, a_selector, a_mask, position_answer, selector_answer, mask_answer}
use Rattle.rules.proofs.Fields.Field.{lowest}
use Rattle.rules.proofs.Bits.Masks.{mask_none}

module _ (W : ℕ) (o : Order) (i : ℕ) where
  pub position_refused : W ≤ i → refused 2 ≡ position_answer W o i
  unfolding verdict position_answer index_cases
  position_refused h = rw (le-leb W i h)

  pub position_given : {p : ℕ} → i < W → p ≡ position W o i → a_position p ≡ position_answer W o i
  unfolding verdict position_answer index_cases
  position_given h e = rw (lt-leb W i h) (ap a_position e)

  pub selector_refused : W ≤ i → refused 2 ≡ selector_answer W o i
  unfolding verdict selector_answer index_cases
  selector_refused h = rw (le-leb W i h)

  pub selector_given : {p s : ℕ} → i < W → s ≡ 2 ^ p → p ≡ position W o i → a_selector s ≡ selector_answer W o i
  unfolding verdict selector_answer index_cases selector
  selector_given h d e = rw (lt-leb W i h) (ap a_selector (d ∙ ap (λ (p : ℕ). 2 ^ p) e))

module _ (W : ℕ) (o : Order) (from upto : ℕ) where
  pub mask_refused_2 : W ≤ from → refused 2 ≡ mask_answer W o from upto
  unfolding verdict mask_answer mask_cases
  mask_refused_2 h = rw (le-leb W from h)

  pub mask_past : from < W → W < upto → refused 10 ≡ mask_answer W o from upto
  unfolding verdict mask_answer mask_cases
  mask_past h l = rw (lt-leb W from h, lt-ltb W upto l)

  pub mask_crossed : from < W → upto < from → refused 10 ≡ mask_answer W o from upto
  unfolding verdict mask_answer mask_cases
  mask_crossed h l = rw (lt-leb W from h, lt-ltb upto from l, or-true (ltb W upto))

  pub mask_given : {m : ℕ} → from < W → from ≤ upto → upto ≤ W → m ≡ mask W o from upto → a_mask m ≡ mask_answer W o from upto
  unfolding verdict mask_answer mask_cases
  mask_given h l k e = rw (lt-leb W from h, le-ltb W upto k, le-ltb upto from l) (ap a_mask e)

pub lowest_lsb0 : (W f n : ℕ) {o : Order} → o ≡ Lsb0 → f ≡ lowest W o f n
unfolding lowest
lowest_lsb0 W f n e = rw e

pub lowest_msb0 : (W f u : ℕ) {o : Order} → o ≡ Msb0 → f ≤ u → W - u ≡ lowest W o f (u - f)
unfolding lowest
lowest_msb0 W f u e h = rw e (omega arith)

pub empty_mask : (W : ℕ) (o : Order) (f u : ℕ) → u ≡ f → 0 ≡ mask W o f u
empty_mask W o f u e = sym (ap (mask W o f) e ∙ mask_none W o f)

-- the low bits of a number, by a mask
pub low_part : (n : ℕ) {x y m : ℕ} → x ≡ y → m ≡ 2 ^ n - 1 → bit_and x m ≡ y % 2 ^ n
low_part n {x} {y} {m} d e = ap₂ bit_and d e ∙ and_mask y n
