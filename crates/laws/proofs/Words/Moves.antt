-- A word moved along its indexes, two neighbouring words joined at a head, and so the bits of a row brought to the indexes of another word.
-- Assumes nothing.
use mathlib.Core.Path.{◌≡◌, sym, ap, ◌∙◌, subst}
use mathlib.Core.List.{List}
use Prim.Native.Nat.{ℕ, ◌+◌, ◌-◌, ◌*◌, ◌/◌, ◌%◌, ◌^◌, ◌≤◌, ◌<◌}
use native.Mathlib.Nat.{add_comm, add-zero, mul_assoc, mod-lt, div-add-mod'}
use native.Mathlib.Omega.{arith}
use lib.ListN.{get_or}
use lib.Bits.{bit_or}
use lib.Pow.{pow-add, shr-shr, mod-mod-pow}
use Rattle.laws.specs.Types.{Order, Lsb0, Msb0}
use Rattle.rules.specs.Bits.{bit_n, of_bits}
use Rattle.rules.specs.Positions.{position, row}
use Rattle.rules.proofs.Bits.Bit.{bit_shr, bit_mod, bit_shl}
use Rattle.rules.proofs.Rows.Row.{Words, row_at, row_bit, position_lt, position_twice}
use Rattle.rules.proofs.Bits.Digits.{bit_of_bits, of_bits_is}
use Rattle.laws.proofs.Words.Funnel.{shl_mod, funneled, funnel}

-- ---- moved k indexes down, and up

unfoldable pub down_of : ℕ → Order → ℕ → ℕ → ℕ
down_of W Lsb0 x k = x / 2 ^ k
down_of W Msb0 x k = x * 2 ^ k % 2 ^ W

unfoldable pub up_of : ℕ → Order → ℕ → ℕ → ℕ
up_of W Lsb0 x k = x * 2 ^ k % 2 ^ W
up_of W Msb0 x k = x / 2 ^ k

module _ (W x k i : ℕ) (below : i < W) where
  pub down_bit : (o : Order) → i + k < W → bit_n (down_of W o x k) (position W o i) ≡ bit_n x (position W o (i + k))
  unfolding down_of position
  down_bit Lsb0 h = bit_shr x k i ∙ ap (bit_n x) (add_comm k i)
  down_bit Msb0 h =
      let e : W - 1 - i ≡ k + (W - 1 - (i + k)) = omega arith in
      bit_mod (x * 2 ^ k) W (W - 1 - i) (omega arith) ∙ ap (bit_n (x * 2 ^ k)) e ∙ bit_shl x k (W - 1 - (i + k))

  pub up_bit : (o : Order) → k ≤ i → bit_n (up_of W o x k) (position W o i) ≡ bit_n x (position W o (i - k))
  unfolding up_of position
  up_bit Lsb0 h =
      let e : i ≡ k + (i - k) = omega arith in
      bit_mod (x * 2 ^ k) W i below ∙ ap (bit_n (x * 2 ^ k)) e ∙ bit_shl x k (i - k)
  up_bit Msb0 h = bit_shr x k (W - 1 - i) ∙ ap (bit_n x) (omega arith)

-- ---- a whole word of a row

-- the word whose index i is bit at + i of the row
unfoldable pub word_from : ℕ → Order → List ℕ → ℕ → ℕ
word_from W o ws at = of_bits W (λ p. row W o ws (at + position W o p))

pub from_bit : (W : ℕ) (o : Order) (ws : List ℕ) (at i : ℕ) → i < W → bit_n (word_from W o ws at) (position W o i) ≡ row W o ws (at + i)
unfolding word_from
from_bit W o ws at i l =
    bit_of_bits W (λ p. row W o ws (at + position W o p)) (position W o i) (position_lt W o i l)
    ∙ row_bit W o ws (at + position W o (position W o i)) ∙ ap (λ (x : ℕ). row W o ws (at + x)) (position_twice W o i l)

-- word k itself, and the word at head h past it
pub from_word : (W : ℕ) (o : Order) (ws : List ℕ) (k : ℕ) → Words W ws → get_or ws k 0 ≡ word_from W o ws (k * W + 0)
unfolding word_from
from_word W o ws k words =
    of_bits_is W (get_or ws k 0) (λ p. row W o ws (k * W + 0 + position W o p)) (words k)
    (λ p l. sym (row_bit W o ws (k * W + 0 + position W o p)
    ∙ ap (λ (x : ℕ). row W o ws (x + position W o p)) (add-zero (k * W)) ∙ row_at W o ws k (position W o p) (position_lt W o p l)
    ∙ ap (bit_n (get_or ws k 0)) (position_twice W o p l)))

pub from_funnel : (W : ℕ) (o : Order) (h : ℕ) → h < W → (ws : List ℕ) (k : ℕ) → Words W ws → funneled W o h (get_or ws k 0) (get_or ws (k + 1) 0) ≡ word_from W o ws (k * W + h)
unfolding word_from
from_funnel = funnel

-- ---- n bits of a row from s on, brought to the indexes from h on

-- the word r has f 0 to f (n - 1) at the indexes from h on
abbrev pub Carries : ℕ → Order → ℕ → ℕ → ℕ → (ℕ → ℕ) → Type 0
Carries W o r h n f = (i : ℕ) → i < n → bit_n r (position W o (h + i)) ≡ f i

module _ (W : ℕ) (o : Order) (src : List ℕ) (s h n : ℕ) (fits : h + n ≤ W) {r : ℕ} where
  -- from the first word, which is moved up
  pub fetch_up : s < h → r ≡ up_of W o (get_or src 0 0) (h - s) → Carries W o r h n (λ i. row W o src (s + i))
  fetch_up l e i m =
      let d : h + i - (h - s) ≡ s + i = omega arith in
      let z : s + i ≡ 0 * W + (s + i) = omega arith in
      ap (λ (x : ℕ). bit_n x (position W o (h + i))) e ∙ up_bit W (get_or src 0 0) (h - s) (h + i) (omega arith) o (omega arith)
      ∙ ap (λ (x : ℕ). bit_n (get_or src 0 0) (position W o x)) d ∙ sym (ap (row W o src) z ∙ row_at W o src 0 (s + i) (omega arith))

  -- from one word as it stands
  pub fetch_same : h ≤ s → (s - h) % W ≡ 0 → r ≡ get_or src ((s - h) / W) 0 → Carries W o r h n (λ i. row W o src (s + i))
  fetch_same l z e i m =
      let d : s + i ≡ (s - h) / W * W + (h + i) = omega (arith, z, div-add-mod' (s - h) W) in
      ap (λ (x : ℕ). bit_n x (position W o (h + i))) e ∙ sym (ap (row W o src) d ∙ row_at W o src ((s - h) / W) (h + i) (omega arith))

  -- from one word, moved down
  pub fetch_down : h ≤ s → (s - h) % W + h + n ≤ W → r ≡ down_of W o (get_or src ((s - h) / W) 0) ((s - h) % W) → Carries W o r h n (λ i. row W o src (s + i))
  fetch_down l f e i m =
      let d : s + i ≡ (s - h) / W * W + (h + i + (s - h) % W) = omega (arith, div-add-mod' (s - h) W) in
      ap (λ (x : ℕ). bit_n x (position W o (h + i))) e
      ∙ down_bit W (get_or src ((s - h) / W) 0) ((s - h) % W) (h + i) (omega arith) o (omega arith)
      ∙ sym (ap (row W o src) d ∙ row_at W o src ((s - h) / W) (h + i + (s - h) % W) (omega arith))

  -- from two words
  pub fetch_over : h ≤ s → 0 < W → Words W src → r ≡ funneled W o ((s - h) % W) (get_or src ((s - h) / W) 0) (get_or src ((s - h) / W + 1) 0)
      → Carries W o r h n (λ i. row W o src (s + i))
  fetch_over l pos words e i m =
      let d : (s - h) / W * W + (s - h) % W + (h + i) ≡ s + i = omega (arith, div-add-mod' (s - h) W) in
      ap (λ (x : ℕ). bit_n x (position W o (h + i))) (e ∙ from_funnel W o ((s - h) % W) (mod-lt (s - h) pos) src ((s - h) / W) words)
      ∙ from_bit W o src ((s - h) / W * W + (s - h) % W) (h + i) (omega arith) ∙ ap (row W o src) d

-- ---- from what code says in each order

pub down_lsb0 : (W : ℕ) (o : Order) (x k : ℕ) → o ≡ Lsb0 → x / 2 ^ k ≡ down_of W o x k
unfolding down_of
down_lsb0 W o x k e = rw e

pub down_msb0 : (W : ℕ) (o : Order) (x k : ℕ) → o ≡ Msb0 → x * 2 ^ k % 2 ^ W ≡ down_of W o x k
unfolding down_of
down_msb0 W o x k e = rw e

pub up_lsb0 : (W : ℕ) (o : Order) (x k : ℕ) → o ≡ Lsb0 → x * 2 ^ k % 2 ^ W ≡ up_of W o x k
unfolding up_of
up_lsb0 W o x k e = rw e

pub up_msb0 : (W : ℕ) (o : Order) (x k : ℕ) → o ≡ Msb0 → x / 2 ^ k ≡ up_of W o x k
unfolding up_of
up_msb0 W o x k e = rw e

-- two shifts are one by the sum, upward where the word has W bits
shl_shl : (m k y j : ℕ) → y * 2 ^ j % 2 ^ (m + k) * 2 ^ k % 2 ^ (m + k) ≡ y * 2 ^ (j + k) % 2 ^ (m + k)
shl_shl m k y j =
    let e : k + m ≡ m + k = omega arith in
    let drop : y * 2 ^ j % 2 ^ (m + k) % 2 ^ m ≡ y * 2 ^ j % 2 ^ m = ap (λ (x : ℕ). y * 2 ^ j % 2 ^ x % 2 ^ m) (sym e) ∙ mod-mod-pow (y * 2 ^ j) k m in
    shl_mod (y * 2 ^ j % 2 ^ (m + k)) k m ∙ ap (λ (x : ℕ). x * 2 ^ k) drop ∙ sym (shl_mod (y * 2 ^ j) k m)
    ∙ ap (λ (x : ℕ). x % 2 ^ (m + k)) (mul_assoc y (2 ^ j) (2 ^ k) ∙ ap (λ (x : ℕ). y * x) (sym (pow-add 2 j k)))

-- the second word is shifted by one and then by the rest, k: no shift is by W, whatever h below W is
module _ (W : ℕ) (o : Order) (h k x y : ℕ) (e : 1 + k + h ≡ W) where
  pub joined_lsb0 : o ≡ Lsb0 → bit_or (x / 2 ^ h) (y * 2 ^ 1 % 2 ^ W * 2 ^ k % 2 ^ W) ≡ funneled W o h x y
  unfolding funneled
  joined_lsb0 p =
      let m : W - h ≡ 1 + k = omega arith in
      let w : W - k + k ≡ W = omega arith in
      rw (p, m) (ap (bit_or (x / 2 ^ h)) (subst (λ (z : ℕ). y * 2 ^ 1 % 2 ^ z * 2 ^ k % 2 ^ z ≡ y * 2 ^ (1 + k) % 2 ^ z) w (shl_shl (W - k) k y 1)))

  pub joined_msb0 : o ≡ Msb0 → bit_or (x * 2 ^ h % 2 ^ W) (y / 2 ^ 1 / 2 ^ k) ≡ funneled W o h x y
  unfolding funneled
  joined_msb0 p =
      let m : W - h ≡ 1 + k = omega arith in
      rw (p, m) (ap (bit_or (x * 2 ^ h % 2 ^ W)) (shr-shr y 1 k))
