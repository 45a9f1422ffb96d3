-- The binary digits of a number: `bit_n n k` is bit k of n. The laws by which a proof reads a bit of `&`, `|`, `^`, a shift, a mask, a
-- complement, a remainder and a sum, and by which two numbers are one when their bits are. Nothing here speaks of a width but as a variable.
-- Assumes nothing.
use mathlib.Core.Path.{◌≡◌, refl, sym, ap, ◌∙◌}
use mathlib.Core.Logic.{◌⊎◌, inl, inr, ◌≢◌}
use Prim.Native.Nat.{ℕ, zero, suc, ◌+◌, ◌-◌, ◌*◌, ◌/◌, ◌%◌, ◌^◌, ◌≤◌, ◌<◌, min, max}
use native.Mathlib.Nat.{mod-mod, le_of_suc-le-suc, lt_of_lt_of_le, div-one, div-div-eq-div-mul, pow-succ', pow-suc, mod-lt, mod-eq_of_lt, div-eq_of_lt, zero-div, min-zero, zero-min, max-zero, zero-max, le-div_iff_mul-le, add-sub_of_le, mul_comm, zero-lt-suc, add-zero, mul-lt-mul_of_pos_right, sub-zero, one-mul, div-lt_iff_lt-mul}
use native.Mathlib.Decide.{dec_lt, ℕ_discrete}
use native.Mathlib.Omega.{arith}
use lib.Arith.{bin_ind, digits_mod, lt-one}
use lib.Pow.{pow_pos, pow_mono, shr-shr, shl-shr, high, low, field, mod-mod-pow, ones_lt, shl_lt, ones_sub-lt}
use lib.Bits.{bit_and, bit_or, bit_xor, differ, and_step, or_step, xor_step, and_shr, or_shr, xor_shr, or_disjoint}
use Rattle.rules.specs.Bits.{bit_n}
use lib.Count.{count_leading_zeros, count_trailing_zeros, under, leading_length}

pub bit_lt : (n k : ℕ) → bit_n n k < 2
unfolding bit_n
bit_lt n k = mod-lt (n / 2 ^ k) (zero-lt-suc 1)

pub bit_bit : (n k : ℕ) → bit_n n k % 2 ≡ bit_n n k
unfolding bit_n
bit_bit n k = mod-mod (n / 2 ^ k) 2

-- a bit is 0 or 1
pub bit_cases_lem : (x : ℕ) → x < 2 → (x ≡ 0) ⊎ (x ≡ 1)
bit_cases_lem zero h = inl refl
bit_cases_lem (suc x) h = inr (ap suc (lt-one (le_of_suc-le-suc h)))

pub bit_zero : (n : ℕ) → bit_n n 0 ≡ n % 2
unfolding bit_n
bit_zero n = ap (λ (x : ℕ). x % 2) (div-one n)

pub bit_suc : (n k : ℕ) → bit_n n (suc k) ≡ bit_n (n / 2) k
unfolding bit_n
bit_suc n k = ap (λ (x : ℕ). n / x % 2) (pow-succ' 2 k) ∙ ap (λ (x : ℕ). x % 2) (sym (div-div-eq-div-mul n 2 (2 ^ k)))

pub bit_of_zero : (k : ℕ) → bit_n 0 k ≡ 0
unfolding bit_n
bit_of_zero k = ap (λ (x : ℕ). x % 2) (zero-div (2 ^ k))

-- ---- a number is its bits

no_bits : (b : ℕ) → ((k : ℕ) → bit_n b k ≡ 0) → b ≡ 0
no_bits =
    bin_ind (λ (b : ℕ). ((k : ℕ) → bit_n b k ≡ 0) → b ≡ 0) (λ h. refl)
    (λ b ih h.
    let hi : b / 2 ≡ 0 = ih (λ k. sym (bit_suc b k) ∙ h (suc k)) in
    let lo : b % 2 ≡ 0 = sym (bit_zero b) ∙ h 0 in
    omega arith)

pub bits_ext : (a b : ℕ) → ((k : ℕ) → bit_n a k ≡ bit_n b k) → a ≡ b
bits_ext =
    bin_ind (λ (a : ℕ). (b : ℕ) → ((k : ℕ) → bit_n a k ≡ bit_n b k) → a ≡ b) (λ b h. sym (no_bits b (λ k. sym (h k) ∙ bit_of_zero k)))
    (λ a ih b h.
    let hi : a / 2 ≡ b / 2 = ih (b / 2) (λ k. sym (bit_suc a k) ∙ h (suc k) ∙ bit_suc b k) in
    let lo : a % 2 ≡ b % 2 = sym (bit_zero a) ∙ h 0 ∙ bit_zero b in
    omega arith)

-- ---- shifts, remainders, and a number of two parts

pub bit_shr : (a k j : ℕ) → bit_n (a / 2 ^ k) j ≡ bit_n a (k + j)
unfolding bit_n
bit_shr a k j = ap (λ (x : ℕ). x % 2) (shr-shr a k j)

pub bit_high : (hi k j : ℕ) {lo : ℕ} → lo < 2 ^ k → bit_n (hi * 2 ^ k + lo) (k + j) ≡ bit_n hi j
bit_high hi k j {lo} h = sym (bit_shr (hi * 2 ^ k + lo) k j) ∙ ap (λ (x : ℕ). bit_n x j) (high hi k h)

-- a number below 2 ^ k has no bit from k on
pub bit_small : (a k j : ℕ) → a < 2 ^ k → k ≤ j → bit_n a j ≡ 0
unfolding bit_n
bit_small a k j h l = ap (λ (x : ℕ). x % 2) (div-eq_of_lt (lt_of_lt_of_le h (pow_mono l)))

-- numbers with the same low k bits have the same low j bits, where j is no more than k
pub same_low : (j k x : ℕ) {y : ℕ} → j ≤ k → x % 2 ^ k ≡ y → x % 2 ^ j ≡ y % 2 ^ j
same_low j k x h e =
    let s : k - j + j ≡ k = omega arith in
    sym (mod-mod-pow x (k - j) j) ∙ ap (λ (i : ℕ). x % 2 ^ i % 2 ^ j) s ∙ ap (λ (z : ℕ). z % 2 ^ j) e

-- the bits below k are those of the remainder
bit_mod' : (a d j : ℕ) → bit_n (a % 2 ^ (d + 1 + j)) j ≡ bit_n a j
unfolding bit_n
bit_mod' a d j = ap (λ (x : ℕ). x % 2) (field a (d + 1) j) ∙ mod-mod-pow (a / 2 ^ j) d 1

pub bit_mod : (a k j : ℕ) → j < k → bit_n (a % 2 ^ k) j ≡ bit_n a j
bit_mod a k j h =
    let e : k - suc j + 1 + j ≡ k = omega arith in
    rw e at (bit_mod' a (k - suc j) j)

pub bit_mod_high : (a k j : ℕ) → k ≤ j → bit_n (a % 2 ^ k) j ≡ 0
bit_mod_high a k j h = bit_small (a % 2 ^ k) k j (mod-lt a (pow_pos k)) h

pub bit_low : (hi k j : ℕ) {lo : ℕ} → lo < 2 ^ k → j < k → bit_n (hi * 2 ^ k + lo) j ≡ bit_n lo j
bit_low hi k j {lo} h l = sym (bit_mod (hi * 2 ^ k + lo) k j l) ∙ ap (λ (x : ℕ). bit_n x j) (low hi k h)

pub bit_shl : (a k j : ℕ) → bit_n (a * 2 ^ k) (k + j) ≡ bit_n a j
bit_shl a k j = ap (λ (x : ℕ). bit_n x (k + j)) (sym (add-zero (a * 2 ^ k))) ∙ bit_high a k j (pow_pos k)

pub bit_shl_low : (a k j : ℕ) → j < k → bit_n (a * 2 ^ k) j ≡ 0
bit_shl_low a k j h =
    ap (λ (x : ℕ). bit_n x j) (sym (add-zero (a * 2 ^ k))) ∙ bit_low a k j (pow_pos k) h ∙ bit_of_zero j

-- equality of bits below the width is enough
pub bits_below : (k a b : ℕ) → a < 2 ^ k → b < 2 ^ k → ((j : ℕ) → j < k → bit_n a j ≡ bit_n b j) → a ≡ b
bits_below k a b ha hb h = bits_ext a b (λ j. go j (dec_lt j k))
  where
    go : (j : ℕ) → Dec (j < k) → bit_n a j ≡ bit_n b j
    go j (yes l) = h j l
    go j (no n) = bit_small a k j ha (omega arith) ∙ sym (bit_small b k j hb (omega arith))

-- a number with no bit from k on is below 2 ^ k
pub lt_of_bits : (k a : ℕ) → ((j : ℕ) → k ≤ j → bit_n a j ≡ 0) → a < 2 ^ k
lt_of_bits k a h = rw (bits_ext (a % 2 ^ k) a (λ j. go j (dec_lt j k))) at (mod-lt a (pow_pos k))
  where
    go : (j : ℕ) → Dec (j < k) → bit_n (a % 2 ^ k) j ≡ bit_n a j
    go j (yes l) = bit_mod a k j l
    go j (no n) = bit_mod_high a k j (omega arith) ∙ sym (h j (omega arith))

-- ---- the three operations

module _ (op f : ℕ → ℕ → ℕ) (step : (a b : ℕ) → op a b ≡ op (a / 2) (b / 2) * 2 + f (a % 2) (b % 2))
    (shr : (a b k : ℕ) → op a b / 2 ^ k ≡ op (a / 2 ^ k) (b / 2 ^ k)) (f_lt : (x y : ℕ) → x < 2 → y < 2 → f x y < 2) where
  bit_op : (a b k : ℕ) → bit_n (op a b) k ≡ f (bit_n a k) (bit_n b k)
  unfolding bit_n
  bit_op a b k =
      ap (λ (x : ℕ). x % 2) (shr a b k ∙ step (a / 2 ^ k) (b / 2 ^ k))
      ∙ digits_mod (op (a / 2 ^ k / 2) (b / 2 ^ k / 2))
      (f_lt (a / 2 ^ k % 2) (b / 2 ^ k % 2) (mod-lt (a / 2 ^ k) (zero-lt-suc 1)) (mod-lt (b / 2 ^ k) (zero-lt-suc 1)))

pub min_lt_2 : (x y : ℕ) → x < 2 → y < 2 → min x y < 2
min_lt_2 x y h l = omega arith

pub max_lt_2 : (x y : ℕ) → x < 2 → y < 2 → max x y < 2
max_lt_2 x y h l = omega arith

pub differ_lt_2 : (x y : ℕ) → x < 2 → y < 2 → differ x y < 2
differ_lt_2 zero y h l = l
differ_lt_2 (suc x) zero h l = h
differ_lt_2 (suc x) (suc y) h l = differ_lt_2 x y (omega arith) (omega arith)

pub bit_and_lem : (a b k : ℕ) → bit_n (bit_and a b) k ≡ min (bit_n a k) (bit_n b k)
bit_and_lem = bit_op bit_and min and_step and_shr min_lt_2

pub bit_or_lem : (a b k : ℕ) → bit_n (bit_or a b) k ≡ max (bit_n a k) (bit_n b k)
bit_or_lem = bit_op bit_or max or_step or_shr max_lt_2

pub bit_xor_lem : (a b k : ℕ) → bit_n (bit_xor a b) k ≡ differ (bit_n a k) (bit_n b k)
bit_xor_lem = bit_op bit_xor differ xor_step xor_shr differ_lt_2

-- ---- sums of numbers with no bit in common, and of a number and one bit

pub bit_add : (a b : ℕ) → ((j : ℕ) → min (bit_n a j) (bit_n b j) ≡ 0) → (k : ℕ) → bit_n (a + b) k ≡ max (bit_n a k) (bit_n b k)
bit_add a b h k =
    ap (λ (x : ℕ). bit_n x k) (sym (or_disjoint a b (bits_ext (bit_and a b) 0 (λ j. bit_and_lem a b j ∙ h j ∙ sym (bit_of_zero j))))) ∙ bit_or_lem a b k

-- the bits of c * 2 ^ e, for a bit c
pub bit_one : (c e : ℕ) → c < 2 → bit_n (c * 2 ^ e) e ≡ c
unfolding bit_n
bit_one c e h = ap (λ (x : ℕ). x % 2) (shl-shr c e) ∙ mod-eq_of_lt h

pub bit_one_other : (c e x : ℕ) → c < 2 → x ≢ e → bit_n (c * 2 ^ e) x ≡ 0
bit_one_other c e x h n = go (dec_lt x e)
  where
    go : Dec (x < e) → bit_n (c * 2 ^ e) x ≡ 0
    go (yes l) = bit_shl_low c e x l
    go (no m) = bit_small (c * 2 ^ e) (suc e) x (rw (pow-suc 2 e) (rw (mul_comm (2 ^ e) 2) (mul-lt-mul_of_pos_right h (pow_pos e)))) (omega arith)

module _ (a c e : ℕ) (hc : c < 2) (free : bit_n a e ≡ 0) where
  apart : (j : ℕ) → min (bit_n a j) (bit_n (c * 2 ^ e) j) ≡ 0
  apart j = go (ℕ_discrete j e)
    where
      go : Dec (j ≡ e) → min (bit_n a j) (bit_n (c * 2 ^ e) j) ≡ 0
      go (yes p) = rw (p, free) (zero-min (bit_n (c * 2 ^ e) e))
      go (no n) = rw (bit_one_other c e j hc n) (min-zero (bit_n a j))

  pub bit_put : bit_n (a + c * 2 ^ e) e ≡ c
  bit_put = bit_add a (c * 2 ^ e) apart e ∙ rw (free, bit_one c e hc) (zero-max c)

  pub bit_put_other : (x : ℕ) → x ≢ e → bit_n (a + c * 2 ^ e) x ≡ bit_n a x
  bit_put_other x n = bit_add a (c * 2 ^ e) apart x ∙ rw (bit_one_other c e x hc n) (max-zero (bit_n a x))

-- ---- complements and masks

pub bit_not : (W a j : ℕ) → a < 2 ^ W → j < W → bit_n (2 ^ W - 1 - a) j ≡ 1 - bit_n a j
bit_not zero a j h l = absurd (omega arith)
bit_not (suc W) a zero h l = rw (bit_zero (2 ^ suc W - 1 - a), bit_zero a) (omega arith)
bit_not (suc W) a (suc j) h l =
    let half : (2 ^ suc W - 1 - a) / 2 ≡ 2 ^ W - 1 - a / 2 = omega arith in
    rw (bit_suc (2 ^ suc W - 1 - a) j, bit_suc a j, half) (bit_not W (a / 2) j (omega arith) (omega arith))

pub not_lt : (W a : ℕ) → 2 ^ W - 1 - a < 2 ^ W
not_lt = ones_sub-lt

pub bit_ones : (n j : ℕ) → j < n → bit_n (2 ^ n - 1) j ≡ 1
bit_ones n j h = ap (λ (x : ℕ). bit_n x j) (sym (sub-zero (2 ^ n - 1))) ∙ bit_not n 0 j (pow_pos n) h ∙ ap (λ (x : ℕ). 1 - x) (bit_of_zero j)

-- the mask of n bits from k on
pub bit_mask : (n k j : ℕ) → k ≤ j → j < k + n → bit_n ((2 ^ n - 1) * 2 ^ k) j ≡ 1
bit_mask n k j l h =
    ap (λ (x : ℕ). bit_n ((2 ^ n - 1) * 2 ^ k) x) (sym (add-sub_of_le l)) ∙ bit_shl (2 ^ n - 1) k (j - k) ∙ bit_ones n (j - k) (omega arith)

pub bit_mask_below : (n k j : ℕ) → j < k → bit_n ((2 ^ n - 1) * 2 ^ k) j ≡ 0
bit_mask_below n k j h = bit_shl_low (2 ^ n - 1) k j h

pub bit_mask_above : (n k j : ℕ) → k + n ≤ j → bit_n ((2 ^ n - 1) * 2 ^ k) j ≡ 0
bit_mask_above n k j h =
    bit_small ((2 ^ n - 1) * 2 ^ k) (n + k) j (shl_lt n k (ones_lt n)) (omega arith)

-- ---- the zeros at either end, by the bits

pub trailing_zero : (k n i : ℕ) → i < count_trailing_zeros k n → bit_n n i ≡ 0
unfolding count_trailing_zeros
trailing_zero zero n i h = absurd (omega arith)
trailing_zero (suc k) n i h = go (trailing_zero k (n / 2)) (n % 2) refl i h
  where
    go : ((i : ℕ) → i < count_trailing_zeros k (n / 2) → bit_n (n / 2) i ≡ 0)
        → (d : ℕ) → n % 2 ≡ d → (i : ℕ) → i < under d (count_trailing_zeros k (n / 2)) → bit_n n i ≡ 0
    go ih zero e zero l = bit_zero n ∙ e
    go ih zero e (suc i) l = bit_suc n i ∙ ih i (le_of_suc-le-suc l)
    go ih (suc d) e i l = absurd (omega arith)

pub trailing_one : (k n : ℕ) → count_trailing_zeros k n < k → bit_n n (count_trailing_zeros k n) ≡ 1
unfolding count_trailing_zeros
trailing_one zero n h = absurd (omega arith)
trailing_one (suc k) n h = go (trailing_one k (n / 2)) (n % 2) refl h
  where
    go : (count_trailing_zeros k (n / 2) < k → bit_n (n / 2) (count_trailing_zeros k (n / 2)) ≡ 1)
        → (d : ℕ) → n % 2 ≡ d → under d (count_trailing_zeros k (n / 2)) < suc k → bit_n n (under d (count_trailing_zeros k (n / 2))) ≡ 1
    go ih zero e l = bit_suc n (count_trailing_zeros k (n / 2)) ∙ ih (le_of_suc-le-suc l)
    go ih (suc d) e l = bit_zero n ∙ omega arith

pub leading_zero : (k n i : ℕ) → n < 2 ^ k → k ≤ i + count_leading_zeros k n → bit_n n i ≡ 0
leading_zero k n i h l =
    let m = leading_length k n h in
    bit_small n m.0 i m.2 (omega (arith, m.1))

pub leading_one : (k n i : ℕ) → n < 2 ^ k → suc i + count_leading_zeros k n ≡ k → bit_n n i ≡ 1
unfolding bit_n
leading_one k n i h e =
    let m = leading_length k n h in
    let mi : m.0 ≡ suc i = omega (arith, m.1) in
    let lo : 2 ^ i ≤ n = omega (arith, rw mi at m.3) in
    let hi : n < 2 ^ suc i = rw mi at m.2 in
    let a : 1 ≤ n / 2 ^ i = (le-div_iff_mul-le (pow_pos i)).1 (omega (arith, one-mul (2 ^ i))) in
    let b : n / 2 ^ i < 2 = (div-lt_iff_lt-mul (pow_pos i)).1 (omega (arith, hi)) in
    omega arith
