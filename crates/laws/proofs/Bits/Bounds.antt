-- Tests against the largest number of k bits, 2 ^ k - 1, and tests of what a shift leaves, as code makes them, are the rules' tests against
-- powers of two. Assumes nothing.
use Prim.Native.Nat.{ℕ, suc, ◌+◌, ◌-◌, ◌*◌, ◌/◌, ◌%◌, ◌^◌, ◌≤◌, ◌<◌}
use mathlib.Core.Path.{◌≡◌, sym, ap, ◌∙◌}
use mathlib.Core.Bool.{true, false≢true}
use native.Mathlib.Nat.{div-eq_of_lt, div-lt_iff_lt-mul, le-div_iff_mul-le}
use native.Mathlib.Decide.{dec_lt}
use native.Mathlib.Omega.{arith}
use borrow.Author.Tests.{ltb-true, lt-ltb, le-ltb, le-leb, lt-leb, eq-eqb, ne_eqb}
use lib.Arith.{digits_mod, mul_pred}
use lib.Dec.{ltb, leb, eqb}
use lib.IntN.{pos, negsuc}
use lib.Pow.{pow_pos, pow_mono, pow-add}
use Rattle.laws.specs.Types.{Sign, Unsigned, Signed}
use Rattle.rules.specs.Fields.{is_integer, signed_of}
use Rattle.rules.proofs.Fields.Signed.{twice}

pub upto : (n : ℕ) {t m : ℕ} → t ≡ m - 1 → 0 < m → leb n t ≡ ltb n m
upto n {t} {m} e h = go (dec_lt n m)
  where
    go : Dec (n < m) → leb n t ≡ ltb n m
    go (yes l) = le-leb n t (omega arith) ∙ sym (lt-ltb n m l)
    go (no l) = lt-leb n t (omega arith) ∙ sym (le-ltb n m (omega arith))

pub under : (n m : ℕ) {t : ℕ} → t ≡ m - 1 → ltb n t ≡ ltb (suc n) m
under n m {t} e = go (dec_lt (suc n) m)
  where
    go : Dec (suc n < m) → ltb n t ≡ ltb (suc n) m
    go (yes l) = lt-ltb n t (omega arith) ∙ sym (lt-ltb (suc n) m l)
    go (no l) = le-ltb n t (omega arith) ∙ sym (le-ltb (suc n) m (omega arith))

-- half of the largest number of k bits is the largest of one bit less
pub half_ones : (k : ℕ) {t : ℕ} → 0 < k → t ≡ 2 ^ k - 1 → t / 2 ≡ 2 ^ (k - 1) - 1
half_ones k h e = omega (arith, twice k h, pow_pos (k - 1))

-- below the half: a loaded number that is read as it is, and one that is read below 0
module _ (len u : ℕ) {t : ℕ} (h : 0 < len) (e : t ≡ 2 ^ len - 1) where
  pub signed_up : u ≤ t / 2 → pos u ≡ signed_of len u
  unfolding signed_of
  signed_up l = rw (lt-ltb u (2 ^ (len - 1)) (omega (arith, twice len h, pow_pos (len - 1))))

  pub signed_down : t / 2 < u → negsuc (t - u) ≡ signed_of len u
  unfolding signed_of
  signed_down l = rw (le-ltb u (2 ^ (len - 1)) (omega (arith, twice len h, pow_pos (len - 1))), e)

-- a shift by j leaves nothing of a number below 2 ^ j, and at most 1 of one below 2 ^ (j + 1)
pub shift_none : (n j : ℕ) → eqb (n / 2 ^ j) 0 ≡ ltb n (2 ^ j)
shift_none n j = go (dec_lt n (2 ^ j))
  where
    go : Dec (n < 2 ^ j) → eqb (n / 2 ^ j) 0 ≡ ltb n (2 ^ j)
    go (yes l) = eq-eqb (n / 2 ^ j) 0 (div-eq_of_lt l) ∙ sym (lt-ltb n (2 ^ j) l)
    go (no l) =
        let some : 1 ≤ n / 2 ^ j = (le-div_iff_mul-le (pow_pos j)).1 (omega arith) in
        ne_eqb (n / 2 ^ j) 0 (λ e. omega arith) ∙ sym (le-ltb n (2 ^ j) (omega arith))

pub shift_one : (n k : ℕ) → 0 < k → leb (n / 2 ^ (k - 1)) 1 ≡ ltb n (2 ^ k)
shift_one n k h = go (dec_lt n (2 ^ k))
  where
    go : Dec (n < 2 ^ k) → leb (n / 2 ^ (k - 1)) 1 ≡ ltb n (2 ^ k)
    go (yes l) =
        let few : n / 2 ^ (k - 1) < 2 = (div-lt_iff_lt-mul (pow_pos (k - 1))).1 (omega (arith, twice k h)) in
        le-leb (n / 2 ^ (k - 1)) 1 (omega arith) ∙ sym (lt-ltb n (2 ^ k) l)
    go (no l) =
        let many : 2 ≤ n / 2 ^ (k - 1) = (le-div_iff_mul-le (pow_pos (k - 1))).1 (omega (arith, twice k h)) in
        lt-leb (n / 2 ^ (k - 1)) 1 (omega arith) ∙ sym (le-ltb n (2 ^ k) (omega arith))

-- a K-bit integer n, or -1 - n, has n below 2 ^ K
half_lt : (K n : ℕ) → ltb n (2 ^ (K - 1)) ≡ true → n < 2 ^ K
half_lt K n e = omega (arith, ltb-true n (2 ^ (K - 1)) e, pow_mono {i = K - 1} {j = K} (omega arith))

pub up_lt : (K : ℕ) (g : Sign) (n : ℕ) → is_integer K g (pos n) ≡ true → n < 2 ^ K
unfolding is_integer
up_lt K Unsigned n e = ltb-true n (2 ^ K) e
up_lt K Signed n e = half_lt K n e

pub down_lt : (K : ℕ) (g : Sign) (n : ℕ) → is_integer K g (negsuc n) ≡ true → n < 2 ^ K
unfolding is_integer
down_lt K Unsigned n e = absurd (false≢true e)
down_lt K Signed n e = half_lt K n e

-- the low k of 64 bits, each turned over, of a number below 2 ^ k
pub turned_low : (k n : ℕ) → k ≤ 64 → n < 2 ^ k → (2 ^ 64 - 1 - n) % 2 ^ k ≡ 2 ^ k - 1 - n
turned_low k n h l = ap (λ (x : ℕ). x % 2 ^ k) parts ∙ digits_mod (2 ^ (64 - k) - 1) (omega (arith, pow_pos k))
  where
    split : 2 ^ 64 ≡ 2 ^ (64 - k) * 2 ^ k
    split = let e : 64 ≡ 64 - k + k = omega arith in ap (λ (x : ℕ). 2 ^ x) e ∙ pow-add 2 (64 - k) k

    parts : 2 ^ 64 - 1 - n ≡ (2 ^ (64 - k) - 1) * 2 ^ k + (2 ^ k - 1 - n)
    parts = omega (arith, split, mul_pred {p = 2 ^ (64 - k)} {c = 2 ^ k} (pow_pos (64 - k)) (pow_pos k))
