-- K as code tests it: one of the four is a power of two with one of the bits 8, 16, 32 and 64. Assumes nothing.
use Prim.Native.Nat.{ℕ, zero, suc, ◌+◌, ◌-◌, ◌*◌, ◌/◌, ◌%◌, ◌^◌, ◌≤◌, ◌<◌}
use mathlib.Core.Path.{◌≡◌, refl, sym, ap, ◌∙◌, subst}
use mathlib.Core.Bool.{Bool, true, false, ◌&&◌, ◌||◌, beq, false≢true}
use native.Mathlib.Nat.{mod-lt}
use native.Mathlib.Decide.{dec_lt}
use native.Mathlib.Omega.{arith}
use lib.Dec.{eqb, lit<}
use lib.Pow.{pow_pos}
use lib.Bits.{bit_and, and_block, and_self, and_zero_l, and_zero_r}
use borrow.Author.Tests.{ne_eqb}
use Rattle.rules.specs.Fields.{is_size}

-- none of the four
pub no_size : (k : ℕ) → (k ≡ 8 → ⊥) → (k ≡ 16 → ⊥) → (k ≡ 32 → ⊥) → (k ≡ 64 → ⊥) → is_size k ≡ false
unfolding is_size
no_size k a b c d = rw (ne_eqb k 8 a, ne_eqb k 16 b, ne_eqb k 32 c, ne_eqb k 64 d)

-- no bit of 120, and none of the four
pub no_bit : (k : ℕ) → bit_and k 120 ≡ 0 → is_size k ≡ false
no_bit k e = no_size k (λ h. not_8 (by h)) (λ h. not_16 (by h)) (λ h. not_32 (by h)) (λ h. not_64 (by h))
  where
    by : {K : ℕ} → k ≡ K → bit_and K 120 ≡ 0
    by h = subst (λ (x : ℕ). bit_and x 120 ≡ 0) h e

    not_8 : bit_and 8 120 ≡ 0 → ⊥
    not_8 h = omega (arith, h)

    not_16 : bit_and 16 120 ≡ 0 → ⊥
    not_16 h = omega (arith, h)

    not_32 : bit_and 32 120 ≡ 0 → ⊥
    not_32 h = omega (arith, h)

    not_64 : bit_and 64 120 ≡ 0 → ⊥
    not_64 h = omega (arith, h)

pub some_bit : (k : ℕ) → (bit_and k 120 ≡ 0 → ⊥) → 1 ≤ k
some_bit zero h = absurd (h (and_zero_l 120))
some_bit (suc k) h = omega arith

-- below 128, by a look at each: without a bit of 120, or a power of two exactly if one of the four
alike : ℕ → Bool
alike k = eqb (bit_and k 120) 0 || beq (eqb (bit_and k (k - 1)) 0) (is_size k)

each : ℕ → Bool
each zero = true
each (suc n) = alike n && each n

both : (a b : Bool) → (a && b) ≡ true → (a ≡ true) × (b ≡ true)
both true b e = (refl, e)
both false b e = absurd (false≢true e)

at : (n : ℕ) → each n ≡ true → (k : ℕ) → k < n → alike k ≡ true
unfolding each
at zero e k h = absurd (omega arith)
at (suc n) e k h = let p = both (alike n) (each n) e in here n k h p.0 (at n p.1 k) (dec_lt k n)
  where
    here : (n k : ℕ) → k < suc n → alike n ≡ true → (k < n → alike k ≡ true) → Dec (k < n) → alike k ≡ true
    here n k h e f (yes l) = f l
    here n k h e f (no l) = subst (λ (x : ℕ). alike x ≡ true) (omega arith) e

all_alike : each 128 ≡ true
unfolding is_size each alike
all_alike = refl

small : (k : ℕ) → (bit_and k 120 ≡ 0 → ⊥) → k < 128 → eqb (bit_and k (k - 1)) 0 ≡ is_size k
unfolding alike
small k b h = same (eqb (bit_and k (k - 1)) 0) (is_size k) (sym (ap (λ (x : Bool). x || beq (eqb (bit_and k (k - 1)) 0) (is_size k)) (ne_eqb (bit_and k 120) 0 b)) ∙ at 128 all_alike k h)
  where
    same : (x y : Bool) → beq x y ≡ true → x ≡ y
    same true true e = refl
    same true false e = absurd (false≢true e)
    same false true e = absurd (false≢true e)
    same false false e = refl

-- from 128 on, no power of two has a bit of 120
large : (k : ℕ) → (bit_and k 120 ≡ 0 → ⊥) → 128 ≤ k → bit_and k (k - 1) ≡ 0 → ⊥
large k b h e = go (k % 2 ^ 7) refl
  where
    hi : ℕ
    hi = k / 2 ^ 7

    go : (r : ℕ) → k % 2 ^ 7 ≡ r → ⊥
    go zero m =
        let w : k ≡ hi * 2 ^ 7 + 0 = omega arith in
        b (ap (λ (x : ℕ). bit_and x 120) w ∙ and_block 7 hi 0 0 120 (lit< tt) (lit< tt) ∙ ap (λ (x : ℕ). x * 2 ^ 7 + bit_and 0 120) (and_zero_r hi))
    go (suc r) m =
        let l : k % 2 ^ 7 < 2 ^ 7 = mod-lt k (pow_pos 7) in
        let w : k ≡ hi * 2 ^ 7 + suc r = omega arith in
        let v : k - 1 ≡ hi * 2 ^ 7 + r = omega arith in
        let s : bit_and k (k - 1) ≡ hi * 2 ^ 7 + bit_and (suc r) r =
        ap (bit_and k) v ∙ ap (λ (x : ℕ). bit_and x (hi * 2 ^ 7 + r)) w
        ∙ and_block 7 hi hi (suc r) r (omega arith) (omega arith) ∙ ap (λ (x : ℕ). x * 2 ^ 7 + bit_and (suc r) r) (and_self hi) in
        omega arith

-- with a bit of 120: one of the four exactly if a power of two
pub power : (k : ℕ) → (bit_and k 120 ≡ 0 → ⊥) → eqb (bit_and k (k - 1)) 0 ≡ is_size k
power k b = go (dec_lt k 128)
  where
    go : Dec (k < 128) → eqb (bit_and k (k - 1)) 0 ≡ is_size k
    go (yes l) = small k b l
    go (no l) = ne_eqb (bit_and k (k - 1)) 0 (large k b (omega arith)) ∙ sym (no_size k (λ h. omega arith) (λ h. omega arith) (λ h. omega arith) (λ h. omega arith))
