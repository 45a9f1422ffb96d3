-- A search within one word: the bits sought are the ones of the word, complemented for zeros and masked to a stretch. Assumes nothing.
use mathlib.Core.Path.{◌≡◌, refl, sym, ap, ◌∙◌}
use mathlib.Core.Logic.{◌≢◌}
use mathlib.Core.List.{List}
use mathlib.Core.Bool.{Bool, true, false}
use Prim.Native.Nat.{ℕ, zero, suc, ◌+◌, ◌-◌, ◌*◌, ◌^◌, ◌≤◌, ◌<◌, min}
use native.Mathlib.Nat.{add_assoc}
use native.Mathlib.Decide.{dec_lt}
use native.Mathlib.Omega.{arith}
use lib.ListN.{get_or}
use lib.Bits.{bit_and, bit_xor, differ}
use lib.Count.{count_leading_zeros, count_trailing_zeros}
use lib.Pow.{pow_pos, ones_lt}
use Rattle.laws.specs.Types.{Order, Lsb0, Msb0}
use Rattle.rules.specs.Bits.{bit_n}
use Rattle.rules.specs.Positions.{position, mask, row}
use Rattle.rules.specs.Rows.{first_with, last_with}
use Rattle.rules.specs.Calls.{digit}
use Rattle.rules.proofs.Bits.Bit.{bit_lt, bit_and_lem, bit_xor_lem, bit_of_zero, bit_ones, differ_lt_2}
use Rattle.rules.proofs.Rows.Row.{row_at, position_lt}
use Rattle.rules.proofs.Bits.Masks.{mask_in, mask_below, mask_above}
use Rattle.rules.proofs.Searches.Search.{first_is, last_is, first_le, last_le, first_here, first_free, last_here, last_free, first_trailing, first_leading, last_leading, last_trailing}

-- ---- a word's first and last one, by the order

pub first_lsb0 : (W x : ℕ) {o : Order} → o ≡ Lsb0 → count_trailing_zeros W x ≡ first_with W (λ i. bit_n x (position W o i)) 1
unfolding position
first_lsb0 W x e = rw e (first_trailing W x)

pub first_msb0 : (W x : ℕ) {o : Order} → o ≡ Msb0 → x < 2 ^ W → count_leading_zeros W x ≡ first_with W (λ i. bit_n x (position W o i)) 1
unfolding position
first_msb0 W x e h = rw e (first_leading W x h)

pub last_lsb0 : (W x : ℕ) {o : Order} → o ≡ Lsb0 → x < 2 ^ W → W - count_leading_zeros W x ≡ last_with W (λ i. bit_n x (position W o i)) 1
unfolding position
last_lsb0 W x e h = rw e (last_leading W x h)

pub last_msb0 : (W x : ℕ) {o : Order} → o ≡ Msb0 → W - count_trailing_zeros W x ≡ last_with W (λ i. bit_n x (position W o i)) 1
unfolding position
last_msb0 W x e = rw e (last_trailing W x)

-- ---- the bits sought, as ones

-- what makes them ones: nothing, or the complement
unfoldable pub flipped : ℕ → Bool → ℕ
flipped W true = 0
flipped W false = 2 ^ W - 1

pub flipped_lt : (W : ℕ) (s : Bool) → flipped W s < 2 ^ W
unfolding flipped
flipped_lt W true = pow_pos W
flipped_lt W false = ones_lt W

pub flipped_bit : (W : ℕ) (s : Bool) (p : ℕ) → p < W → bit_n (flipped W s) p ≡ 1 - digit s
unfolding flipped
flipped_bit W true p h = bit_of_zero p
flipped_bit W false p h = bit_ones W p h

sought : (s : Bool) (x : ℕ) → x < 2 → differ x (1 - digit s) ≡ 1 → x ≡ digit s
sought true zero h e = e
sought true (suc zero) h e = refl
sought true (suc (suc x)) h e = absurd (omega arith)
sought false zero h e = refl
sought false (suc zero) h e = sym e
sought false (suc (suc x)) h e = absurd (omega arith)

seek : (s : Bool) (x : ℕ) → x ≡ digit s → differ x (1 - digit s) ≡ 1
seek true x e = rw e
seek false x e = rw e

-- the word w, flipped, and of it the n indexes from h on
abbrev pub masked : ℕ → Order → Bool → ℕ → ℕ → ℕ → ℕ
masked W o s w h n = bit_and (bit_xor w (flipped W s)) (mask W o h (h + n))

module _ (W : ℕ) (o : Order) (s : Bool) (w h n : ℕ) (fits : h + n ≤ W) where
  masked_as : (i : ℕ) → i < W → bit_n (masked W o s w h n) (position W o i) ≡ min (differ (bit_n w (position W o i)) (1 - digit s)) (bit_n (mask W o h (h + n)) (position W o i))
  masked_as i l =
      bit_and_lem (bit_xor w (flipped W s)) (mask W o h (h + n)) (position W o i)
      ∙ ap (λ (x : ℕ). min x (bit_n (mask W o h (h + n)) (position W o i)))
      (bit_xor_lem w (flipped W s) (position W o i) ∙ ap (λ (x : ℕ). differ (bit_n w (position W o i)) x) (flipped_bit W s (position W o i) (position_lt W o i l)))

  masked_out : (i : ℕ) → i < W → bit_n (mask W o h (h + n)) (position W o i) ≡ 0 → bit_n (masked W o s w h n) (position W o i) ≢ 1
  masked_out i l e q = omega (arith, q, e, masked_as i l)

  -- a bit sought in the stretch is a one of the masked word
  masked_one : (i : ℕ) → i < n → bit_n w (position W o (h + i)) ≡ digit s → bit_n (masked W o s w h n) (position W o (h + i)) ≡ 1
  masked_one i l e = masked_as (h + i) (omega arith) ∙ rw (seek s (bit_n w (position W o (h + i))) e, mask_in W o h n (h + i) fits (omega arith) (omega arith))

  -- a one of the masked word lies in the stretch and is a bit sought
  masked_is : (i : ℕ) → i < W → bit_n (masked W o s w h n) (position W o i) ≡ 1 → (h ≤ i) × (i < h + n) × (bit_n w (position W o i) ≡ digit s)
  masked_is i l e = go (dec_lt i h) (dec_lt i (h + n))
    where
      go : Dec (i < h) → Dec (i < h + n) → (h ≤ i) × (i < h + n) × (bit_n w (position W o i) ≡ digit s)
      go (yes a) y = absurd (masked_out i l (mask_below W o h n i fits a) e)
      go (no a) (no b) = absurd (masked_out i l (mask_above W o h n i fits (omega arith) l) e)
      go (no a) (yes b) = (
        omega arith,
        b,
        sought s (bit_n w (position W o i)) (bit_lt w (position W o i))
            (omega (arith, masked_as i l, mask_in W o h n i fits (omega arith) b, e, differ_lt_2 (bit_n w (position W o i)) (1 - digit s) (bit_lt w (position W o i)) (omega arith))),
      )

-- ---- the n bits from index h of word k on

module _ (W : ℕ) (o : Order) (ws : List ℕ) (s : Bool) (k h n : ℕ) (fits : h + n ≤ W) where
  abbrev w : ℕ
  w = get_or ws k 0

  abbrev bit : ℕ → ℕ
  bit i = row W o ws (k * W + h + i)

  abbrev one : ℕ → ℕ
  one i = bit_n (masked W o s w h n) (position W o i)

  read : (i : ℕ) → i < n → bit i ≡ bit_n w (position W o (h + i))
  read i l = ap (row W o ws) (add_assoc (k * W) h i) ∙ row_at W o ws k (h + i) (omega arith)

  place : (i : ℕ) → i < n → bit i ≡ digit s → one (h + i) ≡ 1
  place i l e = masked_one W o s w h n fits i l (sym (read i l) ∙ e)

  back : (j : ℕ) → h ≤ j → j < h + n → one j ≡ 1 → bit (j - h) ≡ digit s
  back j l m e =
      let q : h + (j - h) ≡ j = omega arith in
      read (j - h) (omega arith) ∙ rw q (masked_is W o s w h n fits j (omega arith) e).2

  -- what the zero counts of the masked word x say
  module _ {x : ℕ} (seen : x ≡ masked W o s (get_or ws k 0) h n) (r : ℕ) where
    module _ (is : r ≡ first_with W (λ i. bit_n x (position W o i)) 1) where
      first_one : r ≡ first_with W one 1
      first_one = is ∙ ap (λ (x : ℕ). first_with W (λ i. bit_n x (position W o i)) 1) seen

      first_lies : r < W → (h ≤ r) × (r < h + n) × (one r ≡ 1)
      first_lies l =
          let e : one r ≡ 1 = ap one first_one ∙ first_here W one 1 (omega (arith, first_one)) in
          let p = masked_is W o s w h n fits r l e in
          (p.0, p.1, e)

      pub first_past : r < W → h ≤ r
      first_past l = (first_lies l).0

      pub first_some : r < W → r - h ≡ first_with n (λ i. row W o ws (k * W + h + i)) (digit s)
      first_some l =
          let p = first_lies l in
          first_is n bit (digit s) (r - h) (omega (arith, p.0, p.1))
          (λ i m q. first_free W one 1 (h + i) (omega (arith, first_one, p.0)) (place i (omega (arith, p.0, p.1)) q))
          (λ m. back r p.0 p.1 p.2)

      pub first_none : W ≤ r → n ≡ first_with n (λ i. row W o ws (k * W + h + i)) (digit s)
      first_none l =
          first_is n bit (digit s) n (omega arith)
          (λ i m q. first_free W one 1 (h + i) (omega (arith, first_one)) (place i m q))
          (λ m. absurd (omega arith))

    module _ (is : r ≡ last_with W (λ i. bit_n x (position W o i)) 1) where
      last_one : r ≡ last_with W one 1
      last_one = is ∙ ap (λ (x : ℕ). last_with W (λ i. bit_n x (position W o i)) 1) seen

      last_lies : 0 < r → (h < r) × (r ≤ h + n) × (one (r - 1) ≡ 1)
      last_lies l =
          let q : suc (r - 1) ≡ r = omega arith in
          let e : one (r - 1) ≡ 1 = last_here W one 1 (r - 1) (q ∙ last_one) in
          let p = masked_is W o s w h n fits (r - 1) (omega (arith, last_one, last_le W one 1)) e in
          (omega (arith, p.0), omega (arith, p.1), e)

      pub last_past : 0 < r → h ≤ r
      last_past l = omega (arith, (last_lies l).0)

      pub last_some : 0 < r → r - h ≡ last_with n (λ i. row W o ws (k * W + h + i)) (digit s)
      last_some l =
          let p = last_lies l in
          last_is n bit (digit s) (r - h) (omega (arith, p.0, p.1))
          (λ i m k q. last_free W one 1 (h + i) (omega (arith, last_one, p.0)) (omega arith) (place i k q))
          (λ i q. let u : i ≡ r - 1 - h = omega (arith, p.0) in rw u (back (r - 1) (omega (arith, p.0)) (omega (arith, p.0, p.1)) p.2))

      pub last_none : r ≡ 0 → 0 ≡ last_with n (λ i. row W o ws (k * W + h + i)) (digit s)
      last_none z =
          last_is n bit (digit s) 0 (omega arith)
          (λ i m k q. last_free W one 1 (h + i) (omega (arith, last_one)) (omega arith) (place i k q))
          (λ i q. absurd (omega arith))

-- the masked word from the flip and the mask that code has
pub masked_by : (W : ℕ) (o : Order) (s : Bool) (w h n : ℕ) {f m : ℕ} → f ≡ flipped W s → m ≡ mask W o h (h + n) → bit_and (bit_xor w f) m ≡ masked W o s w h n
masked_by W o s w h n {m = m} p q = ap (λ (f : ℕ). bit_and (bit_xor w f) m) p ∙ ap (λ (m : ℕ). bit_and (bit_xor w (flipped W s)) m) q

-- ---- a stretch of no bits

pub first_of_none : (n : ℕ) (b : ℕ → ℕ) (v : ℕ) → n ≡ 0 → 0 ≡ first_with n b v
first_of_none n b v e = omega (arith, first_le n b v)

pub last_of_none : (n : ℕ) (b : ℕ → ℕ) (v : ℕ) → n ≡ 0 → 0 ≡ last_with n b v
last_of_none n b v e = omega (arith, last_le n b v)
