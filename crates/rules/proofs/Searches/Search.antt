-- The first and the last place of a run of bits that holds a given bit. Assumes nothing.
use mathlib.Core.Path.{◌≡◌, refl, sym, ap, ◌∙◌}
use mathlib.Core.Logic.{◌≢◌, ◌⊎◌, inl, inr}
use mathlib.Core.Bool.{Bool, true, false, cond}
use Prim.Native.Nat.{ℕ, zero, suc, ◌+◌, ◌-◌, ◌^◌, ◌≤◌, ◌<◌, zero-le, suc-le-suc}
use native.Mathlib.Nat.{le_of_suc-le-suc, eq-or-lt_of_le}
use native.Mathlib.Omega.{arith}
use lib.Dec.{eqb}
use lib.Count.{count_leading_zeros, count_trailing_zeros, trailing_le, leading_le}
use native.Mathlib.Decide.{dec_lt}
use Rattle.rules.specs.Bits.{bit_n, bit_at}
use Rattle.rules.specs.Rows.{first_with, last_with}
use Rattle.rules.proofs.Bits.Bit.{trailing_zero, trailing_one, leading_zero, leading_one}
use borrow.Author.Tests.{eqb-true, eqb-false}
use mathlib.Core.List.{List, [], ◌∷◌}
use Rattle.rules.specs.Types.{Lsb0, Msb0}
use Rattle.rules.specs.Positions.{position, mirror, row}

-- the four searches of one byte; a search that finds nothing gives the length, or 0
searches : (ℕ → ℕ) → List ℕ
searches b = first_with 8 b 1 ∷ last_with 8 b 1 ∷ first_with 8 b 0 ∷ last_with 8 b 0 ∷ []

searches_are : searches (row 8 Lsb0 (0xB4 ∷ [])) ∷ searches (row 8 Msb0 (0xB4 ∷ [])) ∷ [] ≡ (2 ∷ 8 ∷ 0 ∷ 7 ∷ []) ∷ (0 ∷ 6 ∷ 1 ∷ 8 ∷ []) ∷ []
unfolding searches first_with last_with row mirror position bit_at bit_n
searches_are = refl

-- whatever has the bit, or is the end, and has none before it, is the first
pub first_is : (n : ℕ) (b : ℕ → ℕ) (v k : ℕ) → k ≤ n → ((i : ℕ) → i < k → b i ≢ v) → (k < n → b k ≡ v) → k ≡ first_with n b v
unfolding first_with
first_is zero b v k le free here = omega arith
first_is (suc n) b v k le free here = go k le free here (eqb (b 0) v) refl (first_is n (λ i. b (suc i)) v)
  where
    go : (k : ℕ) → k ≤ suc n → ((i : ℕ) → i < k → b i ≢ v) → (k < suc n → b k ≡ v) → (t : Bool) → eqb (b 0) v ≡ t
        → ((j : ℕ) → j ≤ n → ((i : ℕ) → i < j → b (suc i) ≢ v) → (j < n → b (suc j) ≡ v) → j ≡ first_with n (λ i. b (suc i)) v)
        → k ≡ cond t 0 (suc (first_with n (λ i. b (suc i)) v))
    go zero le free here true e ih = refl
    go zero le free here false e ih = absurd (eqb-false (b 0) v e (here (omega arith)))
    go (suc j) le free here true e ih = absurd (free 0 (omega arith) (eqb-true (b 0) v e))
    go (suc j) le free here false e ih =
        ap suc (ih j (le_of_suc-le-suc le) (λ i l. free (suc i) (omega arith)) (λ l. here (omega arith)))

pub last_is : (n : ℕ) (b : ℕ → ℕ) (v k : ℕ) → k ≤ n → ((i : ℕ) → k ≤ i → i < n → b i ≢ v) → ((i : ℕ) → suc i ≡ k → b i ≡ v) → k ≡ last_with n b v
unfolding last_with
last_is zero b v k le free here = omega arith
last_is (suc n) b v k le free here = go (eqb (b n) v) refl (last_is n b v k) (eq-or-lt_of_le le)
  where
    go : (t : Bool) → eqb (b n) v ≡ t
        → (k ≤ n → ((i : ℕ) → k ≤ i → i < n → b i ≢ v) → ((i : ℕ) → suc i ≡ k → b i ≡ v) → k ≡ last_with n b v)
        → (k ≡ suc n) ⊎ (k < suc n) → k ≡ cond t (suc n) (last_with n b v)
    go true e ih (inl p) = p
    go true e ih (inr l) = absurd (free n (le_of_suc-le-suc l) (omega arith) (eqb-true (b n) v e))
    go false e ih (inl p) = absurd (eqb-false (b n) v e (here n (sym p)))
    go false e ih (inr l) = ih (le_of_suc-le-suc l) (λ i m q. free i m (omega arith)) here

-- ---- what the first is

pub first_le : (n : ℕ) (b : ℕ → ℕ) (v : ℕ) → first_with n b v ≤ n
unfolding first_with
first_le zero b v = zero-le
first_le (suc n) b v = go (eqb (b 0) v) (first_le n (λ i. b (suc i)) v)
  where
    go : (t : Bool) → first_with n (λ i. b (suc i)) v ≤ n → cond t 0 (suc (first_with n (λ i. b (suc i)) v)) ≤ suc n
    go true ih = zero-le
    go false ih = suc-le-suc ih

pub first_here : (n : ℕ) (b : ℕ → ℕ) (v : ℕ) → first_with n b v < n → b (first_with n b v) ≡ v
unfolding first_with
first_here zero b v h = absurd (omega arith)
first_here (suc n) b v h = go (eqb (b 0) v) refl (first_here n (λ i. b (suc i)) v) h
  where
    go : (t : Bool) → eqb (b 0) v ≡ t → (first_with n (λ i. b (suc i)) v < n → b (suc (first_with n (λ i. b (suc i)) v)) ≡ v)
        → cond t 0 (suc (first_with n (λ i. b (suc i)) v)) < suc n → b (cond t 0 (suc (first_with n (λ i. b (suc i)) v))) ≡ v
    go true e ih l = eqb-true (b 0) v e
    go false e ih l = ih (le_of_suc-le-suc l)

pub first_free : (n : ℕ) (b : ℕ → ℕ) (v i : ℕ) → i < first_with n b v → b i ≢ v
unfolding first_with
first_free zero b v i h = absurd (omega arith)
first_free (suc n) b v i h = go (eqb (b 0) v) refl (first_free n (λ i. b (suc i)) v) i h
  where
    go : (t : Bool) → eqb (b 0) v ≡ t → ((i : ℕ) → i < first_with n (λ i. b (suc i)) v → b (suc i) ≢ v)
        → (i : ℕ) → i < cond t 0 (suc (first_with n (λ i. b (suc i)) v)) → b i ≢ v
    go true e ih i l = absurd (omega arith)
    go false e ih zero l = eqb-false (b 0) v e
    go false e ih (suc i) l = ih i (le_of_suc-le-suc l)

-- ---- the counts of zeros are searches

pub first_trailing : (k x : ℕ) → count_trailing_zeros k x ≡ first_with k (λ i. bit_n x i) 1
first_trailing k x =
    first_is k (λ i. bit_n x i) 1 (count_trailing_zeros k x) (trailing_le k x) (λ i l q. omega (arith, trailing_zero k x i l, q)) (trailing_one k x)

pub first_leading : (k x : ℕ) → x < 2 ^ k → count_leading_zeros k x ≡ first_with k (λ i. bit_n x (k - 1 - i)) 1
first_leading k x h =
    first_is k (λ i. bit_n x (k - 1 - i)) 1 (count_leading_zeros k x) (leading_le k x)
    (λ i l q. omega (arith, leading_zero k x (k - 1 - i) h (omega (arith, leading_le k x)), q))
    (λ l. leading_one k x (k - 1 - count_leading_zeros k x) h (omega arith))

pub last_leading : (k x : ℕ) → x < 2 ^ k → k - count_leading_zeros k x ≡ last_with k (λ i. bit_n x i) 1
last_leading k x h =
    last_is k (λ i. bit_n x i) 1 (k - count_leading_zeros k x) (omega arith)
    (λ i l m q. omega (arith, leading_zero k x i h (omega arith), q))
    (λ i p. leading_one k x i h (omega arith))

pub last_trailing : (k x : ℕ) → k - count_trailing_zeros k x ≡ last_with k (λ i. bit_n x (k - 1 - i)) 1
last_trailing k x =
    last_is k (λ i. bit_n x (k - 1 - i)) 1 (k - count_trailing_zeros k x) (omega arith)
    (λ i l m q. omega (arith, trailing_zero k x (k - 1 - i) (omega arith), q))
    (λ i p. let e : k - 1 - i ≡ count_trailing_zeros k x = omega (arith, trailing_le k x) in rw e (trailing_one k x (omega arith)))

-- ---- what the last is

pub last_le : (n : ℕ) (b : ℕ → ℕ) (v : ℕ) → last_with n b v ≤ n
unfolding last_with
last_le zero b v = zero-le
last_le (suc n) b v = go (eqb (b n) v) (last_le n b v)
  where
    go : (t : Bool) → last_with n b v ≤ n → cond t (suc n) (last_with n b v) ≤ suc n
    go true ih = omega arith
    go false ih = omega arith

pub last_here : (n : ℕ) (b : ℕ → ℕ) (v i : ℕ) → suc i ≡ last_with n b v → b i ≡ v
unfolding last_with
last_here zero b v i h = absurd (omega arith)
last_here (suc n) b v i h = go (eqb (b n) v) refl (last_here n b v i) h
  where
    go : (t : Bool) → eqb (b n) v ≡ t → (suc i ≡ last_with n b v → b i ≡ v) → suc i ≡ cond t (suc n) (last_with n b v) → b i ≡ v
    go true e ih p = let q : i ≡ n = omega arith in ap b q ∙ eqb-true (b n) v e
    go false e ih p = ih p

pub last_free : (n : ℕ) (b : ℕ → ℕ) (v i : ℕ) → last_with n b v ≤ i → i < n → b i ≢ v
unfolding last_with
last_free zero b v i h l = absurd (omega arith)
last_free (suc n) b v i h l = go (eqb (b n) v) refl (last_free n b v i) h (eq-or-lt_of_le (le_of_suc-le-suc l))
  where
    go : (t : Bool) → eqb (b n) v ≡ t → (last_with n b v ≤ i → i < n → b i ≢ v) → cond t (suc n) (last_with n b v) ≤ i → (i ≡ n) ⊎ (i < n) → b i ≢ v
    go true e ih p q = absurd (omega arith)
    go false e ih p (inl q) = λ r. eqb-false (b n) v e (ap b (sym q) ∙ r)
    go false e ih p (inr q) = ih p q

pub last_beyond : (k n : ℕ) (b : ℕ → ℕ) (v : ℕ) → last_with n (λ i. b (k + i)) v ≡ 0 → last_with k b v ≡ last_with (k + n) b v
last_beyond k n b v e =
    last_is (k + n) b v (last_with k b v) (omega (arith, last_le k b v)) (λ i l m. free i l m (dec_lt i k)) (λ i p. last_here k b v i p)
  where
    free : (i : ℕ) → last_with k b v ≤ i → i < k + n → Dec (i < k) → b i ≢ v
    free i l m (yes q) = last_free k b v i l q
    free i l m (no q) = let r : k + (i - k) ≡ i = omega arith in rw r at (last_free n (λ i. b (k + i)) v (i - k) (omega arith) (omega arith))

-- ---- searches see the bits alone, and zeros are the ones of the complement

pub first_ext : (n : ℕ) (b c : ℕ → ℕ) (v : ℕ) → ((i : ℕ) → i < n → b i ≡ c i) → first_with n b v ≡ first_with n c v
first_ext n b c v same =
    first_is n c v (first_with n b v) (first_le n b v)
    (λ i l q. first_free n b v i l (same i (omega (arith, first_le n b v)) ∙ q)) (λ l. sym (same (first_with n b v) l) ∙ first_here n b v l)

pub last_ext : (n : ℕ) (b c : ℕ → ℕ) (v : ℕ) → ((i : ℕ) → i < n → b i ≡ c i) → last_with n b v ≡ last_with n c v
last_ext n b c v same =
    last_is n c v (last_with n b v) (last_le n b v)
    (λ i l m q. last_free n b v i l m (same i m ∙ q)) (λ i p. sym (same i (omega (arith, last_le n b v))) ∙ last_here n b v i p)

pub first_zero : (n : ℕ) (b : ℕ → ℕ) → ((i : ℕ) → i < n → b i < 2) → first_with n b 0 ≡ first_with n (λ i. 1 - b i) 1
first_zero n b bits =
    first_is n (λ i. 1 - b i) 1 (first_with n b 0) (first_le n b 0)
    (λ i l q. first_free n b 0 i l (omega (arith, q))) (λ l. omega (arith, first_here n b 0 l))

pub last_zero : (n : ℕ) (b : ℕ → ℕ) → ((i : ℕ) → i < n → b i < 2) → last_with n b 0 ≡ last_with n (λ i. 1 - b i) 1
last_zero n b bits =
    last_is n (λ i. 1 - b i) 1 (last_with n b 0) (last_le n b 0)
    (λ i l m q. last_free n b 0 i l m (omega (arith, q))) (λ i p. omega (arith, last_here n b 0 i p))
