-- A number made of bits, and a table. Assumes nothing.
use mathlib.Core.Path.{◌≡◌, refl, sym, ap, ◌∙◌}
use Prim.Native.Nat.{ℕ, zero, suc, ◌+◌, ◌*◌, ◌/◌, ◌%◌, ◌^◌, ◌<◌}
use native.Mathlib.Nat.{le_of_suc-le-suc, pow-succ'}
use native.Mathlib.Omega.{arith}
use lib.ListN.{length, get_or}
use Rattle.rules.specs.Bits.{bit_n, of_bits, tabulate}
use Rattle.rules.proofs.Bits.Bit.{bit_zero, bit_suc, bits_below}

pub bit_of_bits : (n : ℕ) (f : ℕ → ℕ) (k : ℕ) → k < n → bit_n (of_bits n f) k ≡ f k % 2
unfolding of_bits
bit_of_bits zero f k h = absurd (omega arith)
bit_of_bits (suc n) f zero h = bit_zero (f 0 % 2 + 2 * of_bits n (λ k. f (suc k))) ∙ omega arith
bit_of_bits (suc n) f (suc k) h =
    let half : (f 0 % 2 + 2 * of_bits n (λ k. f (suc k))) / 2 ≡ of_bits n (λ k. f (suc k)) = omega arith in
    bit_suc (f 0 % 2 + 2 * of_bits n (λ k. f (suc k))) k ∙ ap (λ (x : ℕ). bit_n x k) half ∙ bit_of_bits n (λ k. f (suc k)) k (le_of_suc-le-suc h)

pub of_bits_lt : (n : ℕ) (f : ℕ → ℕ) → of_bits n f < 2 ^ n
unfolding of_bits
of_bits_lt zero f = omega arith
of_bits_lt (suc n) f = omega (arith, pow-succ' 2 n, of_bits_lt n (λ k. f (suc k)))

-- the number is determined by its bits
pub of_bits_is : (n x : ℕ) (f : ℕ → ℕ) → x < 2 ^ n → ((k : ℕ) → k < n → bit_n x k ≡ f k % 2) → x ≡ of_bits n f
of_bits_is n x f h same = bits_below n x (of_bits n f) h (of_bits_lt n f) (λ k l. same k l ∙ sym (bit_of_bits n f k l))

pub of_bits_ext : (n : ℕ) (f g : ℕ → ℕ) → ((k : ℕ) → k < n → f k % 2 ≡ g k % 2) → of_bits n f ≡ of_bits n g
of_bits_ext n f g same = of_bits_is n (of_bits n f) g (of_bits_lt n f) (λ k l. bit_of_bits n f k l ∙ same k l)

-- ---- tables

pub length_tabulate : (n : ℕ) (f : ℕ → ℕ) → length (tabulate n f) ≡ n
unfolding tabulate
length_tabulate zero f = refl
length_tabulate (suc n) f = ap suc (length_tabulate n (λ k. f (suc k)))

pub get_or_tabulate : (n : ℕ) (f : ℕ → ℕ) (k : ℕ) → k < n → get_or (tabulate n f) k 0 ≡ f k
unfolding tabulate
get_or_tabulate zero f k h = absurd (omega arith)
get_or_tabulate (suc n) f zero h = refl
get_or_tabulate (suc n) f (suc k) h = get_or_tabulate n (λ j. f (suc j)) k (le_of_suc-le-suc h)
