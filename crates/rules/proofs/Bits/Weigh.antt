-- A number put together from bits, where bit i weighs 2 ^ e i, and the places renumbered by e. Assumes nothing.
use mathlib.Core.Path.{◌≡◌, refl, sym, ap, ap₂, ◌∙◌}
use mathlib.Core.Logic.{◌≢◌}
use Prim.Native.Nat.{ℕ, zero, suc, ◌+◌, ◌*◌, ◌%◌, ◌^◌, ◌≤◌, ◌<◌}
use native.Mathlib.Nat.{eq-or-lt_of_le, le_of_suc-le-suc, le_step, lt-suc_self, mod-lt}
use mathlib.Core.Logic.{◌⊎◌, inl, inr}
use native.Mathlib.Omega.{arith}
use lib.Pow.{pow_pos}
use Rattle.rules.specs.Bits.{bit_n}
use Rattle.rules.specs.Fields.{weigh}
use Rattle.rules.proofs.Bits.Bit.{bit_lt, bit_of_zero, bit_put, bit_put_other, bits_below, lt_of_bits, bit_mod}

pub weigh_ext : (n : ℕ) (g h e : ℕ → ℕ) → ((i : ℕ) → i < n → g i ≡ h i) → weigh n g e ≡ weigh n h e
unfolding weigh
weigh_ext zero g h e same = refl
weigh_ext (suc n) g h e same =
    ap₂ (λ (x y : ℕ). x + y * 2 ^ e n) (weigh_ext n g h e (λ i l. same i (le_step l))) (same n (lt-suc_self n))

-- a place that no bit weighs is 0
pub weigh_none : (n : ℕ) (g e : ℕ → ℕ) → ((i : ℕ) → g i < 2) → ((i j : ℕ) → i < n → j < n → e i ≡ e j → i ≡ j) → (x : ℕ)
    → ((i : ℕ) → i < n → e i ≢ x) → bit_n (weigh n g e) x ≡ 0
unfolding weigh
weigh_none zero g e bits inj x free = bit_of_zero x
weigh_none (suc n) g e bits inj x free =
    let inj' : (i j : ℕ) → i < n → j < n → e i ≡ e j → i ≡ j = λ i j h l q. inj i j (le_step h) (le_step l) q in
    let top : bit_n (weigh n g e) (e n) ≡ 0 = weigh_none n g e bits inj' (e n) (λ i l q. ne i l (inj i n (le_step l) (lt-suc_self n) q)) in
    bit_put_other (weigh n g e) (g n) (e n) (bits n) top x (λ q. free n (lt-suc_self n) (sym q))
    ∙ weigh_none n g e bits inj' x (λ i l. free i (le_step l))
  where
    ne : (i : ℕ) → i < n → i ≢ n
    ne i l q = omega arith

-- the bit that weighs 2 ^ e k
pub weigh_at : (n : ℕ) (g e : ℕ → ℕ) → ((i : ℕ) → g i < 2) → ((i j : ℕ) → i < n → j < n → e i ≡ e j → i ≡ j) → (k : ℕ) → k < n
    → bit_n (weigh n g e) (e k) ≡ g k
unfolding weigh
weigh_at zero g e bits inj k h = absurd (omega arith)
weigh_at (suc n) g e bits inj k h =
    go (weigh_at n g e bits inj' k) (weigh_none n g e bits inj' (e n) (λ i l q. ne i l (inj i n (le_step l) (lt-suc_self n) q)))
    (eq-or-lt_of_le (le_of_suc-le-suc h))
  where
    inj' : (i j : ℕ) → i < n → j < n → e i ≡ e j → i ≡ j
    inj' i j a b q = inj i j (le_step a) (le_step b) q

    ne : (i : ℕ) → i < n → i ≢ n
    ne i l q = omega arith

    go : (k < n → bit_n (weigh n g e) (e k) ≡ g k) → bit_n (weigh n g e) (e n) ≡ 0 → (k ≡ n) ⊎ (k < n)
        → bit_n (weigh n g e + g n * 2 ^ e n) (e k) ≡ g k
    go ih top (inl q) = rw q (bit_put (weigh n g e) (g n) (e n) (bits n) top)
    go ih top (inr l) = bit_put_other (weigh n g e) (g n) (e n) (bits n) top (e k) (λ q. ne k l (inj k n h (lt-suc_self n) q)) ∙ ih l

-- e numbers the places 0 to n - 1 anew, and p is the way back
pub record Renumbers (n : ℕ) (e p : ℕ → ℕ) : Type 0 where
  pub below : (i : ℕ) → i < n → e i < n
  pub back_below : (x : ℕ) → x < n → p x < n
  pub back : (i : ℕ) → i < n → p (e i) ≡ i
  pub forth : (x : ℕ) → x < n → e (p x) ≡ x

module _ (n : ℕ) (e p : ℕ → ℕ) (R : Renumbers n e p) where
  pub apart : (i j : ℕ) → i < n → j < n → e i ≡ e j → i ≡ j
  apart i j a b q = sym (R.back i a) ∙ ap p q ∙ R.back j b

  module _ (g : ℕ → ℕ) (bits : (i : ℕ) → g i < 2) where
    pub weigh_weight : (k : ℕ) → k < n → bit_n (weigh n g e) (e k) ≡ g k
    weigh_weight = weigh_at n g e bits apart

    pub weigh_bit : (x : ℕ) → x < n → bit_n (weigh n g e) x ≡ g (p x)
    weigh_bit x h = ap (bit_n (weigh n g e)) (sym (R.forth x h)) ∙ weigh_weight (p x) (R.back_below x h)

    pub weigh_lt : weigh n g e < 2 ^ n
    weigh_lt = lt_of_bits n (weigh n g e) (λ x l. weigh_none n g e bits apart x (λ i h q. out i x h l q))
      where
        out : (i x : ℕ) → i < n → n ≤ x → e i ≢ x
        out i x h l q = omega (arith, R.below i h)

  -- a value's bits, weighed by the same numbering, are the value
  pub weigh_of_bits : (v : ℕ) → weigh n (λ i. bit_n v (e i)) e ≡ v % 2 ^ n
  weigh_of_bits v =
      bits_below n (weigh n (λ i. bit_n v (e i)) e) (v % 2 ^ n) (weigh_lt (λ i. bit_n v (e i)) (λ i. bit_lt v (e i))) (mod-lt v (pow_pos n))
      (λ x h. weigh_bit (λ i. bit_n v (e i)) (λ i. bit_lt v (e i)) x h ∙ ap (bit_n v) (R.forth x h) ∙ sym (bit_mod v n x h))

-- the number is determined by its bits at the weights
pub weigh_is : (n : ℕ) (e p : ℕ → ℕ) → Renumbers n e p → (g : ℕ → ℕ) → ((i : ℕ) → g i < 2) → (v : ℕ) → v < 2 ^ n
    → ((i : ℕ) → i < n → bit_n v (e i) ≡ g i) → v ≡ weigh n g e
weigh_is n e p R g bits v h same =
    bits_below n v (weigh n g e) h (weigh_lt n e p R g bits)
    (λ x l. ap (bit_n v) (sym (R.forth x l)) ∙ same (p x) (R.back_below x l) ∙ sym (weigh_bit n e p R g bits x l))
