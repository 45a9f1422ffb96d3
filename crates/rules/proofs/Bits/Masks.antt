-- A mask: a run of selectors is a run of ones, shifted; its bits by the indexes that it covers; and a run of ones as shifts of a word make it.
-- Assumes nothing.
use Prim.Native.Nat.{ℕ, zero, suc, ◌+◌, ◌-◌, ◌*◌, ◌^◌, ◌≤◌, ◌/◌, ◌%◌, ◌<◌}
use mathlib.Core.Path.{◌≡◌, sym, ap, ◌∙◌, refl}
use native.Mathlib.Nat.{pow-suc, add-mul, mul_comm, mul_assoc}
use native.Mathlib.Omega.{arith}
use lib.Pow.{pow-add, pow_pos, shl_exact, ones_split, high, ones_lt}
use mathlib.Core.List.{[], ◌∷◌}
use mathlib.Core.Logic.{◌⊎◌, inl, inr}
use Rattle.rules.specs.Types.{Order, Lsb0, Msb0}
use Rattle.rules.specs.Positions.{position, selector, selectors, mask}
use Rattle.rules.specs.Bits.{bit_n}
use Rattle.rules.proofs.Fields.Field.{lowest}
use Rattle.rules.proofs.Bits.Bit.{bit_mask, bit_mask_below, bit_mask_above}

-- masks 2 up to 5, and of nothing
masks : mask 8 Lsb0 2 5 ∷ mask 8 Msb0 2 5 ∷ mask 8 Lsb0 3 3 ∷ [] ≡ 0x1C ∷ 0x38 ∷ 0 ∷ []
unfolding mask selectors selector position
masks = refl

-- (2 ^ k - 1) * x, with 2 ^ k * x as one number
ones_times : (k x : ℕ) → (2 ^ k - 1) * x + x ≡ 2 ^ k * x
ones_times k x =
    let e : 2 ^ k - 1 + 1 ≡ 2 ^ k = omega (arith, pow_pos k) in
    sym (add-mul (2 ^ k - 1) 1 x ∙ omega arith) ∙ ap (λ (y : ℕ). y * x) e

lsb0_run : (W f k : ℕ) → selectors W Lsb0 f k ≡ (2 ^ k - 1) * 2 ^ f
unfolding selectors selector position
lsb0_run W f zero = omega arith
lsb0_run W f (suc k) =
    let a : 2 ^ (f + k) ≡ 2 ^ k * 2 ^ f = pow-add 2 f k ∙ mul_comm (2 ^ f) (2 ^ k) in
    let b : 2 ^ suc k * 2 ^ f ≡ 2 ^ k * 2 ^ f + 2 ^ k * 2 ^ f = ap (λ (x : ℕ). x * 2 ^ f) (pow-suc 2 k ∙ omega arith) ∙ add-mul (2 ^ k) (2 ^ k) (2 ^ f) in
    omega (arith, lsb0_run W f k, ones_times k (2 ^ f), ones_times (suc k) (2 ^ f))

msb0_run : (W f k : ℕ) → f + k ≤ W → selectors W Msb0 f k ≡ (2 ^ k - 1) * 2 ^ (W - f - k)
unfolding selectors selector position
msb0_run W f zero h = omega arith
msb0_run W f (suc k) h =
    let l = W - f - suc k in
    let e : W - f - k ≡ suc l = omega arith in
    let g : W - 1 - (f + k) ≡ l = omega arith in
    let ih : selectors W Msb0 f k ≡ (2 ^ k - 1) * 2 ^ suc l = msb0_run W f k (omega arith) ∙ ap (λ (x : ℕ). (2 ^ k - 1) * 2 ^ x) e in
    let a : 2 ^ suc l ≡ 2 ^ l * 2 = pow-suc 2 l in
    let b : 2 ^ suc k * 2 ^ l ≡ 2 ^ k * 2 ^ suc l = ap (λ (x : ℕ). x * 2 ^ l) (pow-suc 2 k) ∙ mul_assoc (2 ^ k) 2 (2 ^ l) ∙ ap (λ (x : ℕ). 2 ^ k * x) (mul_comm 2 (2 ^ l) ∙ sym a) in
    let s : 2 ^ (W - 1 - (f + k)) ≡ 2 ^ l = ap (λ (x : ℕ). 2 ^ x) g in
    omega (arith, ones_times k (2 ^ suc l), ones_times (suc k) (2 ^ l))

-- the selectors of k indexes from f on
pub selectors_are : (W : ℕ) (o : Order) (f k : ℕ) → f + k ≤ W → selectors W o f k ≡ (2 ^ k - 1) * 2 ^ lowest W o f k
unfolding lowest
selectors_are W Lsb0 f k h = lsb0_run W f k
selectors_are W Msb0 f k h = msb0_run W f k h

pub mask_is : (W : ℕ) (o : Order) (from upto : ℕ) → from ≤ upto → upto ≤ W → mask W o from upto ≡ (2 ^ (upto - from) - 1) * 2 ^ lowest W o from (upto - from)
unfolding mask
mask_is W o from upto h l = selectors_are W o from (upto - from) (omega arith)

-- the ones of a mask, from their lowest position up
pub mask_from : (W : ℕ) (o : Order) (from upto low : ℕ) {m : ℕ} → from ≤ upto → upto ≤ W → low ≡ lowest W o from (upto - from) → m ≡ (2 ^ (upto - from) - 1) * 2 ^ low → m ≡ mask W o from upto
mask_from W o from upto low h l e d = d ∙ ap (λ (x : ℕ). (2 ^ (upto - from) - 1) * 2 ^ x) e ∙ sym (mask_is W o from upto h l)

-- `from` = `upto` gives 0
pub mask_none : (W : ℕ) (o : Order) (from : ℕ) → mask W o from from ≡ 0
unfolding mask selectors
mask_none W o from = let e : from - from ≡ 0 = omega arith in ap (selectors W o from) e

-- the n indexes from h on
pub mask_run : (W : ℕ) (o : Order) (h n : ℕ) → h + n ≤ W → mask W o h (h + n) ≡ (2 ^ n - 1) * 2 ^ lowest W o h n
mask_run W o h n fits =
    let e : h + n - h ≡ n = omega arith in
    rw e at (mask_is W o h (h + n) (omega arith) fits)

-- its bits, by the index
module _ (W h n i : ℕ) (fits : h + n ≤ W) where
  unfoldable run : Order → ℕ
  run o = bit_n ((2 ^ n - 1) * 2 ^ lowest W o h n) (position W o i)

  run_is : (o : Order) → bit_n (mask W o h (h + n)) (position W o i) ≡ run o
  unfolding run
  run_is o = ap (λ (x : ℕ). bit_n x (position W o i)) (mask_run W o h n fits)

  run_in : (o : Order) → h ≤ i → i < h + n → run o ≡ 1
  unfolding run lowest position
  run_in Lsb0 l m = bit_mask n h i l m
  run_in Msb0 l m = bit_mask n (W - h - n) (W - 1 - i) (omega arith) (omega arith)

  run_below : (o : Order) → i < h → run o ≡ 0
  unfolding run lowest position
  run_below Lsb0 l = bit_mask_below n h i l
  run_below Msb0 l = bit_mask_above n (W - h - n) (W - 1 - i) (omega arith)

  run_above : (o : Order) → h + n ≤ i → i < W → run o ≡ 0
  unfolding run lowest position
  run_above Lsb0 l m = bit_mask_above n h i l
  run_above Msb0 l m = bit_mask_below n (W - h - n) (W - 1 - i) (omega arith)

pub mask_in : (W : ℕ) (o : Order) (h n i : ℕ) → h + n ≤ W → h ≤ i → i < h + n → bit_n (mask W o h (h + n)) (position W o i) ≡ 1
mask_in W o h n i fits l m = run_is W h n i fits o ∙ run_in W h n i fits o l m

pub mask_below : (W : ℕ) (o : Order) (h n i : ℕ) → h + n ≤ W → i < h → bit_n (mask W o h (h + n)) (position W o i) ≡ 0
mask_below W o h n i fits l = run_is W h n i fits o ∙ run_below W h n i fits o l

pub mask_above : (W : ℕ) (o : Order) (h n i : ℕ) → h + n ≤ W → h + n ≤ i → i < W → bit_n (mask W o h (h + n)) (position W o i) ≡ 0
mask_above W o h n i fits l m = run_is W h n i fits o ∙ run_above W h n i fits o l m

-- ---- all ones of a word moved down to n of them, then up to a position

pub ones_down : (W n : ℕ) → n ≤ W → (2 ^ W - 1) / 2 ^ (W - n) ≡ 2 ^ n - 1
ones_down W n h =
    ap (λ (w : ℕ). (2 ^ w - 1) / 2 ^ (W - n)) (omega arith)
    ∙ ap (λ (x : ℕ). x / 2 ^ (W - n)) (ones_split n (W - n))
    ∙ high (2 ^ n - 1) (W - n) (ones_lt (W - n))

pub ones_moved : (W p n : ℕ) → p + n ≤ W → ((2 ^ W - 1) / 2 ^ (W - n) * 2 ^ p) % 2 ^ W ≡ (2 ^ n - 1) * 2 ^ p
ones_moved W p n fits = ap (λ (x : ℕ). x * 2 ^ p % 2 ^ W) (ones_down W n (omega arith)) ∙ shl_exact n p W (ones_lt n) (omega arith)

-- n ones from the lowest position of the indexes up, in either order
pub run_lsb0 : (W h n : ℕ) {o : Order} {m : ℕ} → h + n ≤ W → o ≡ Lsb0 → m ≡ (2 ^ n - 1) * 2 ^ h → m ≡ mask W o h (h + n)
unfolding lowest
run_lsb0 W h n fits e d = rw e (d ∙ sym (mask_run W Lsb0 h n fits))

pub run_msb0 : (W h n : ℕ) {o : Order} {m : ℕ} → h + n ≤ W → o ≡ Msb0 → m ≡ (2 ^ n - 1) * 2 ^ (W - h - n) → m ≡ mask W o h (h + n)
unfolding lowest
run_msb0 W h n fits e d = rw e (d ∙ sym (mask_run W Msb0 h n fits))

-- beside the run there is no bit
pub mask_out : (W : ℕ) (o : Order) (h n i : ℕ) → h + n ≤ W → i < W → (i < h) ⊎ (h + n ≤ i) → bit_n (mask W o h (h + n)) (position W o i) ≡ 0
mask_out W o h n i fits l (inl s) = mask_below W o h n i fits s
mask_out W o h n i fits l (inr s) = mask_above W o h n i fits s l
