-- Signed numbers of a field: the integer that n bits stand for, and the bits of an integer. `mag z` is m for m and for -(m + 1), so
-- `mag z < 2 ^ k` says -2 ^ k ≤ z ≤ 2 ^ k - 1. Assumes nothing.
use mathlib.Core.Path.{◌≡◌, refl, sym, ap, ◌∙◌}
use mathlib.Core.Bool.{Bool, true, false, cond, false≢true}
use Prim.Native.Nat.{ℕ, suc, ◌-◌, ◌*◌, ◌%◌, ◌^◌, ◌≤◌, ◌<◌}
use native.Mathlib.Nat.{mod-eq_of_lt, mod-lt, pow-succ'}
use native.Mathlib.Omega.{arith}
use lib.Dec.{ltb}
use lib.IntN.{ℤ, pos, negsuc}
use lib.Signed.{mag}
use lib.Pow.{pow_pos, pow_mono}
use borrow.Author.Tests.{ltb-true, ltb-false, lt-ltb, le-ltb}
use Rattle.rules.specs.Types.{Sign, Unsigned, Signed}
use Rattle.rules.specs.Fields.{signed_of, read_as, bits_of, fits}
use Rattle.rules.proofs.Bits.Bit.{bits_below, bit_mod, bit_not, not_lt}
use mathlib.Core.List.{[], ◌∷◌}

-- loaded numbers with their sign
signs : signed_of 8 0xCB ∷ signed_of 8 0x64 ∷ signed_of 3 6 ∷ signed_of 1 1 ∷ [] ≡ negsuc 52 ∷ pos 100 ∷ negsuc 1 ∷ negsuc 0 ∷ []
unfolding signed_of
signs = refl

pub twice : (n : ℕ) → 0 < n → 2 ^ n ≡ 2 * 2 ^ (n - 1)
twice n h = ap (λ (x : ℕ). 2 ^ x) (omega arith) ∙ pow-succ' 2 (n - 1)

-- the low bits of a negative number's bits
low_negative : (K n a : ℕ) → n ≤ K → a < 2 ^ K → (2 ^ K - 1 - a) % 2 ^ n ≡ 2 ^ n - 1 - a % 2 ^ n
low_negative K n a h l =
    bits_below n ((2 ^ K - 1 - a) % 2 ^ n) (2 ^ n - 1 - a % 2 ^ n) (mod-lt (2 ^ K - 1 - a) (pow_pos n)) (not_lt n (a % 2 ^ n))
    (λ j m. bit_mod (2 ^ K - 1 - a) n j m ∙ bit_not K a j l (omega arith) ∙ ap (λ (x : ℕ). 1 - x) (sym (bit_mod a n j m)) ∙ sym (bit_not n (a % 2 ^ n) j (mod-lt a (pow_pos n)) m))

-- a signed load is in its range
pub signed_range : (n u : ℕ) → 0 < n → u < 2 ^ n → mag (signed_of n u) < 2 ^ (n - 1)
unfolding signed_of
signed_range n u p h = go (ltb u (2 ^ (n - 1))) refl
  where
    go : (t : Bool) → ltb u (2 ^ (n - 1)) ≡ t → mag (cond t (pos u) (negsuc (2 ^ n - 1 - u))) < 2 ^ (n - 1)
    go true e = ltb-true u (2 ^ (n - 1)) e
    go false e = omega (arith, ltb-false u (2 ^ (n - 1)) e, twice n p)

-- and congruent to the unsigned one: it has the same low n bits
pub signed_low : (K n u : ℕ) → n ≤ K → u < 2 ^ n → bits_of K (signed_of n u) % 2 ^ n ≡ u
unfolding signed_of bits_of
signed_low K n u p h = go (ltb u (2 ^ (n - 1)))
  where
    small : 2 ^ n - 1 - u < 2 ^ K
    small = omega (arith, pow_mono p, pow_pos n)

    go : (t : Bool) → bits_of K (cond t (pos u) (negsuc (2 ^ n - 1 - u))) % 2 ^ n ≡ u
    go true = mod-eq_of_lt h
    go false =
        let e : (2 ^ n - 1 - u) % 2 ^ n ≡ 2 ^ n - 1 - u = mod-eq_of_lt (omega (arith, pow_pos n)) in
        low_negative K n (2 ^ n - 1 - u) p small ∙ rw e (omega arith)

-- a number in the range is the one that its low bits stand for
pub signed_is : (K n : ℕ) (z : ℤ) → 0 < n → n ≤ K → mag z < 2 ^ (n - 1) → signed_of n (bits_of K z % 2 ^ n) ≡ z
unfolding signed_of bits_of
signed_is K n (pos a) p l h =
    let e : a % 2 ^ n ≡ a = mod-eq_of_lt (omega (arith, twice n p)) in
    rw (e, lt-ltb a (2 ^ (n - 1)) h)
signed_is K n (negsuc a) p l h =
    let t = twice n p in
    let e : a % 2 ^ n ≡ a = mod-eq_of_lt (omega (arith, t)) in
    let g : (2 ^ K - 1 - a) % 2 ^ n ≡ 2 ^ n - 1 - a = low_negative K n a l (omega (arith, t, pow_mono l)) ∙ rw e in
    let f : 2 ^ n - 1 - (2 ^ n - 1 - a) ≡ a = omega (arith, t) in
    rw (g, le-ltb (2 ^ n - 1 - a) (2 ^ (n - 1)) (omega (arith, t)), f)

-- what strict store takes, a load of the same sign returns
pub fits_returned : (K n : ℕ) (g : Sign) (z : ℤ) → 0 < n → n ≤ K → fits n g z ≡ true → read_as g n (bits_of K z % 2 ^ n) ≡ z
unfolding fits read_as bits_of
fits_returned K n Unsigned (pos m) p l e = ap pos (mod_bits (ltb-true m (2 ^ n) e))
  where
    mod_bits : m < 2 ^ n → bits_of K (pos m) % 2 ^ n ≡ m
    mod_bits h = low h
      where
        low : m < 2 ^ n → m % 2 ^ n ≡ m
        low h = mod-eq_of_lt h
fits_returned K n Unsigned (negsuc m) p l e = absurd (false≢true e)
fits_returned K n Signed (pos m) p l e = signed_is K n (pos m) p l (ltb-true m (2 ^ (n - 1)) e)
fits_returned K n Signed (negsuc m) p l e = signed_is K n (negsuc m) p l (omega (arith, ltb-true (suc m) (2 ^ (n - 1)) e))
