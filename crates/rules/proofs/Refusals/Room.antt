-- Refusal 3 by the words left, as code tests it without overflow. Assumes nothing.
use Prim.Native.Nat.{ℕ, ◌+◌, ◌-◌, ◌*◌, ◌/◌, ◌≤◌, ◌<◌, ◌^◌}
use mathlib.Core.Path.{◌≡◌, ap, ◌∙◌, sym, subst}
use native.Mathlib.Nat.{add-mul, add-sub_of_le, mul-le-mul, mul-lt-mul_of_pos_right, mul-add-div_right, div-le_of_le-mul, mul_comm, zero-mul}
use mathlib.Core.Bool.{true, not}
use native.Mathlib.Decide.{dec_lt}
use native.Mathlib.Omega.{arith}
use lib.Dec.{leb, ltb}
use borrow.Author.Tests.{lt-ltb, le-ltb, lt-leb, le-leb}

-- what is left of n words after the first j
pub room : (W : ℕ) {j n : ℕ} → j ≤ n → n * W ≡ j * W + (n - j) * W
room W {j} {n} h = ap (λ (x : ℕ). x * W) (sym (add-sub_of_le h)) ∙ add-mul j (n - j) W

-- nothing, where there are no more
pub none_left : (W : ℕ) {j n : ℕ} → n ≤ j → (n - j) * W ≡ 0
none_left W {j} {n} h = let e : n - j ≡ 0 = omega arith in ap (λ (x : ℕ). x * W) e ∙ zero-mul W

-- and a word at least, where there are more
pub some_left : (W : ℕ) {j n : ℕ} → j < n → W ≤ (n - j) * W
some_left W {j} {n} h = omega (arith, mul-le-mul {n₁ = 1} {m₁ = W} {n₂ = n - j} {m₂ = W} (omega arith) (omega arith))

pub product_fits : (W m : ℕ) → W < 256 → m ≤ 65536 → m * W < 2 ^ 64
product_fits W m hw hm = let h : m * W ≤ 65536 * 255 = mul-le-mul {n₁ = m} {m₁ = W} {n₂ = 65536} {m₂ = 255} hm (omega arith) in omega arith

module _ (W : ℕ) {j n : ℕ} (h l : ℕ) where
  beyond : h < W → n < j → n * W < j * W + h + l
  beyond hh hj = omega (arith, mul-lt-mul_of_pos_right {m = n} {n = j} {k = W} hj (omega arith))

  pub no_word : h < W → n < j → true ≡ not (leb (j * W + h + l) (n * W))
  no_word hh hj = sym (ap not (lt-leb (j * W + h + l) (n * W) (beyond hh hj)))

  past : j ≤ n → (n - j) * W < h + l → n * W < j * W + h + l
  past hj hr = omega (arith, room W hj)

  inside : j ≤ n → h + l ≤ (n - j) * W → j * W + h + l ≤ n * W
  inside hj hr = omega (arith, room W hj)

  pub no_room : j ≤ n → (n - j) * W < h + l → true ≡ not (leb (j * W + h + l) (n * W))
  no_room hj hr = sym (ap not (lt-leb (j * W + h + l) (n * W) (past hj hr)))

  -- l bits at head h of word j: whether they do not fit, by the words from it on
  pub by_room : j ≤ n → h ≤ (n - j) * W → ltb ((n - j) * W - h) l ≡ not (leb (j * W + h + l) (n * W))
  by_room hj hh = go (dec_lt ((n - j) * W - h) l)
    where
      go : Dec ((n - j) * W - h < l) → ltb ((n - j) * W - h) l ≡ not (leb (j * W + h + l) (n * W))
      go (yes r) = lt-ltb ((n - j) * W - h) l r ∙ no_room hj (omega arith)
      go (no r) = le-ltb ((n - j) * W - h) l (omega arith) ∙ sym (ap not (le-leb (j * W + h + l) (n * W) (inside hj (omega arith))))

-- the word of a place t past word j
module _ (W j t : ℕ) {n : ℕ} (hW : 0 < W) where
  pub word_upto : j * W + t ≤ n * W → j + t / W ≤ n
  word_upto h = subst (λ (x : ℕ). x ≤ n) (mul-add-div_right hW j t) (div-le_of_le-mul W (subst (λ (x : ℕ). j * W + t ≤ x) (mul_comm n W) h))
