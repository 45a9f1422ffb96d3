-- The word that stands at a head of a row, from the two words that it lies in, in either order. Assumes nothing.
use mathlib.Core.Path.{◌≡◌, refl, sym, ap, ap₂, ◌∙◌, subst}
use mathlib.Core.List.{List}
use Prim.Native.Nat.{ℕ, ◌+◌, ◌-◌, ◌*◌, ◌/◌, ◌%◌, ◌^◌, ◌<◌}
use native.Mathlib.Nat.{add-mul, one-mul, div-one, mod-eq_of_lt, mul-mod_left}
use native.Mathlib.Omega.{arith}
use lib.ListN.{get_or}
use lib.Bits.{bit_or, or_shifted_r, or_shifted}
use lib.Pow.{shl-shr, mod-pow-add, shr_lt}
use Rattle.laws.specs.Types.{Order, Lsb0, Msb0, Le, Be}
use Rattle.rules.specs.Bits.{bit_n, of_bits}
use Rattle.rules.specs.Positions.{position, row}
use Rattle.rules.specs.Fields.{exponent, load_of}
use Rattle.rules.proofs.Rows.Row.{Words, row_bit, position_lt}
use Rattle.rules.proofs.Bits.Digits.{of_bits_is}
use Rattle.rules.proofs.Fields.Field.{lowest, load_lt, load_bit, load_one, load_le, load_be}
use Rattle.laws.proofs.Fields.Chunk.{own}

exponent_position : (W : ℕ) (o : Order) (at p : ℕ) → p < W → exponent W o (own o) at W (position W o p) ≡ p
unfolding own exponent position
exponent_position W Lsb0 at p h = refl
exponent_position W Msb0 at p h = omega arith

-- W bits of the row from `at` on, as a word
pub word_load : (W : ℕ) → 0 < W → (o : Order) (ws : List ℕ) (at : ℕ) → of_bits W (λ p. row W o ws (at + position W o p)) ≡ load_of W o (own o) ws at W
word_load W pos o ws at =
    sym (of_bits_is W (load_of W o (own o) ws at W) (λ p. row W o ws (at + position W o p)) (load_lt W pos o (own o) ws at W)
    (λ p l. ap (bit_n (load_of W o (own o) ws at W)) (sym (exponent_position W o at p l)) ∙ load_bit W pos o (own o) ws at W (position W o p) (position_lt W o p l)
    ∙ sym (row_bit W o ws (at + position W o p))))

pub shl_mod : (y m h : ℕ) → (y * 2 ^ m) % 2 ^ (h + m) ≡ (y % 2 ^ h) * 2 ^ m
shl_mod y m h =
    mod-pow-add (y * 2 ^ m) h m
    ∙ ap (λ (z : ℕ). (z % 2 ^ h) * 2 ^ m + (y * 2 ^ m) % 2 ^ m) (shl-shr y m)
    ∙ omega (arith, mul-mod_left y (2 ^ m))

-- h below W is given as W = m + h
module _ (m h : ℕ) (pos : 0 < m) (ws : List ℕ) (k : ℕ) (words : Words (m + h) ws) where
  edge : k * (m + h) + h + m ≡ (k + 1) * (m + h)
  edge = omega (arith, add-mul k 1 (m + h), one-mul (m + h))

  wide : 0 < m + h
  wide = omega arith

  here : k * (m + h) + h + m ≡ (k + 1) * (m + h) + 0
  here = omega (arith, edge)

  -- Lsb0: the high bits of word k, and above them the low ones of the next
  funnel_lsb0 : bit_or (get_or ws k 0 / 2 ^ h) ((get_or ws (k + 1) 0 * 2 ^ m) % 2 ^ (m + h)) ≡ load_of (m + h) Lsb0 Le ws (k * (m + h) + h) (m + h)
  unfolding lowest
  funnel_lsb0 =
      let x = get_or ws k 0 in
      let y = get_or ws (k + 1) 0 in
      let s : (y * 2 ^ m) % 2 ^ (m + h) ≡ (y % 2 ^ h) * 2 ^ m = ap (λ (j : ℕ). (y * 2 ^ m) % 2 ^ j) (omega arith) ∙ shl_mod y m h in
      let lo : load_of (m + h) Lsb0 Le ws (k * (m + h) + h) m ≡ x / 2 ^ h = load_one (m + h) wide k h m (omega arith) Lsb0 Le ws ∙ mod-eq_of_lt (shr_lt m h (words k)) in
      let hi : load_of (m + h) Lsb0 Le ws (k * (m + h) + h + m) h ≡ y % 2 ^ h =
      ap (λ (j : ℕ). load_of (m + h) Lsb0 Le ws j h) here ∙ load_one (m + h) wide (k + 1) 0 h (omega arith) Lsb0 Le ws ∙ ap (λ (z : ℕ). z % 2 ^ h) (div-one y) in
      ap (bit_or (x / 2 ^ h)) s ∙ or_shifted_r (y % 2 ^ h) m (x / 2 ^ h) (shr_lt m h (words k))
      ∙ sym (load_le (m + h) wide (k * (m + h) + h) m h (k + 1) edge Lsb0 ws ∙ ap₂ (λ (a b : ℕ). a * 2 ^ m + b) hi lo)

  -- Msb0: the low bits of word k, and below them the high ones of the next
  funnel_msb0 : bit_or ((get_or ws k 0 * 2 ^ h) % 2 ^ (m + h)) (get_or ws (k + 1) 0 / 2 ^ m) ≡ load_of (m + h) Msb0 Be ws (k * (m + h) + h) (m + h)
  unfolding lowest
  funnel_msb0 =
      let x = get_or ws k 0 in
      let y = get_or ws (k + 1) 0 in
      let small : y / 2 ^ m < 2 ^ h = shr_lt h m (ap_lt (words (k + 1))) in
      let z : m + h - h - m ≡ 0 = omega arith in
      let t : m + h - 0 - h ≡ m = omega arith in
      let hi : load_of (m + h) Msb0 Be ws (k * (m + h) + h) m ≡ x % 2 ^ m =
      load_one (m + h) wide k h m (omega arith) Msb0 Be ws ∙ ap (λ (j : ℕ). x / 2 ^ j % 2 ^ m) z ∙ ap (λ (j : ℕ). j % 2 ^ m) (div-one x) in
      let lo : load_of (m + h) Msb0 Be ws (k * (m + h) + h + m) h ≡ y / 2 ^ m =
      ap (λ (j : ℕ). load_of (m + h) Msb0 Be ws j h) here ∙ load_one (m + h) wide (k + 1) 0 h (omega arith) Msb0 Be ws ∙ ap (λ (j : ℕ). y / 2 ^ j % 2 ^ h) t ∙ mod-eq_of_lt small in
      ap (λ (a : ℕ). bit_or a (y / 2 ^ m)) (shl_mod x h m) ∙ or_shifted (x % 2 ^ m) h (y / 2 ^ m) small
      ∙ sym (load_be (m + h) wide (k * (m + h) + h) m h (k + 1) edge Msb0 ws ∙ ap₂ (λ (a b : ℕ). a * 2 ^ h + b) hi lo)
    where
      ap_lt : get_or ws (k + 1) 0 < 2 ^ (m + h) → get_or ws (k + 1) 0 < 2 ^ (h + m)
      ap_lt l = let e : m + h ≡ h + m = omega arith in rw (← e) l

-- ---- the same at W

unfoldable pub funneled : ℕ → Order → ℕ → ℕ → ℕ → ℕ
funneled W Lsb0 h x y = bit_or (x / 2 ^ h) ((y * 2 ^ (W - h)) % 2 ^ W)
funneled W Msb0 h x y = bit_or ((x * 2 ^ h) % 2 ^ W) (y / 2 ^ (W - h))

-- h is given as W - m, and m as W - h
funnel_load : (m h : ℕ) → 0 < m → (o : Order) (ws : List ℕ) (k : ℕ) → Words (m + h) ws
    → funneled (m + h) o h (get_or ws k 0) (get_or ws (k + 1) 0) ≡ load_of (m + h) o (own o) ws (k * (m + h) + h) (m + h)
unfolding funneled own
funnel_load m h pos Lsb0 ws k words = let e : m + h - h ≡ m = omega arith in rw e (funnel_lsb0 m h pos ws k words)
funnel_load m h pos Msb0 ws k words = let e : m + h - h ≡ m = omega arith in rw e (funnel_msb0 m h pos ws k words)

-- the word at head h past word k
pub funnel : (W : ℕ) (o : Order) (h : ℕ) → h < W → (ws : List ℕ) (k : ℕ) → Words W ws
    → funneled W o h (get_or ws k 0) (get_or ws (k + 1) 0) ≡ of_bits W (λ p. row W o ws (k * W + h + position W o p))
funnel W o h l ws k words =
    let e : W - h + h ≡ W = omega arith in
    subst (λ (w : ℕ). Words w ws → funneled w o h (get_or ws k 0) (get_or ws (k + 1) 0) ≡ load_of w o (own o) ws (k * w + h) w) e (funnel_load (W - h) h (omega arith) o ws k) words
    ∙ sym (word_load W (omega arith) o ws (k * W + h))
