-- A word merged into another under a mask, and a run of bits put into a row that way. Assumes nothing.
use mathlib.Core.Path.{◌≡◌, refl, sym, ap, ◌∙◌}
use mathlib.Core.Logic.{◌⊎◌, inl, inr}
use mathlib.Core.List.{List}
use Prim.Native.Nat.{ℕ, zero, suc, ◌+◌, ◌/◌, ◌%◌, ◌^◌, ◌≤◌, ◌<◌, min}
use native.Mathlib.Nat.{div-add-mod'}
use native.Mathlib.Omega.{arith}
use lib.ListN.{length, get_or, set}
use lib.Bits.{bit_and, bit_xor, differ, xor_lt, and_le_l}
use Rattle.laws.specs.Types.{Order}
use Rattle.rules.specs.Bits.{bit_n}
use Rattle.rules.specs.Positions.{position, mask, spliced}
use Rattle.rules.proofs.Bits.Bit.{bit_lt, bit_bit, bit_cases_lem, bit_and_lem, bit_xor_lem}
use Rattle.rules.proofs.Rows.Row.{Words}
use Rattle.laws.proofs.Rows.Word.{set_is_spliced}
use Rattle.rules.proofs.Bits.Masks.{mask_in, mask_out}

-- ---- one of two words, bit by bit

-- v where m has ones, else u
unfoldable pub selected : ℕ → ℕ → ℕ → ℕ
selected m u v = bit_xor u (bit_and (bit_xor u v) m)

differ_zero : (x : ℕ) → differ x 0 ≡ x
differ_zero zero = refl
differ_zero (suc x) = refl

merged : (x y : ℕ) → (x ≡ 0) ⊎ (x ≡ 1) → (y ≡ 0) ⊎ (y ≡ 1) → differ x (min (differ x y) 1) ≡ y
merged x y (inl e) (inl f) = rw (e, f)
merged x y (inl e) (inr f) = rw (e, f)
merged x y (inr e) (inl f) = rw (e, f)
merged x y (inr e) (inr f) = rw (e, f)

module _ (m u v p : ℕ) where
  select_as : bit_n (selected m u v) p ≡ differ (bit_n u p) (min (differ (bit_n u p) (bit_n v p)) (bit_n m p))
  unfolding selected
  select_as =
      bit_xor_lem u (bit_and (bit_xor u v) m) p
      ∙ ap (λ (x : ℕ). differ (bit_n u p) x) (bit_and_lem (bit_xor u v) m p ∙ ap (λ (x : ℕ). min x (bit_n m p)) (bit_xor_lem u v p))

  pub select_off : bit_n m p ≡ 0 → bit_n (selected m u v) p ≡ bit_n u p
  select_off e = select_as ∙ ap (λ (x : ℕ). differ (bit_n u p) x) (omega (arith, e)) ∙ differ_zero (bit_n u p)

  pub select_on : bit_n m p ≡ 1 → bit_n (selected m u v) p ≡ bit_n v p
  select_on e =
      select_as ∙ ap (λ (x : ℕ). differ (bit_n u p) (min (differ (bit_n u p) (bit_n v p)) x)) e
      ∙ merged (bit_n u p) (bit_n v p) (bit_cases_lem (bit_n u p) (bit_lt u p)) (bit_cases_lem (bit_n v p) (bit_lt v p))

pub select_lt : (W m u v : ℕ) → u < 2 ^ W → v < 2 ^ W → selected m u v < 2 ^ W
unfolding selected
select_lt W m u v hu hv = xor_lt W u (bit_and (bit_xor u v) m) hu (omega (arith, and_le_l (bit_xor u v) m, xor_lt W u v hu hv))

-- ---- a run of bits within one word, put by a mask: a splice

pub put_piece : (W : ℕ) → 0 < W → (o : Order) (ws : List ℕ) (d n v : ℕ) {m : ℕ} → d % W + n ≤ W → d / W < length ws → Words W ws → v < 2 ^ W
    → m ≡ mask W o (d % W) (d % W + n)
    → set ws (d / W) (selected m (get_or ws (d / W) 0) v) ≡ spliced W o ws d n (λ i. bit_n v (position W o (d % W + i)))
put_piece W pos o ws d n v {m} fits here words small em =
    set_is_spliced W pos o ws (d / W) here (selected m w v) (select_lt W m w v (words (d / W)) small) words (d % W) n fits
    (λ i. bit_n v (position W o (d % W + i)))
    (λ i l. select_on m w v (position W o (d % W + i)) (ap (λ (x : ℕ). bit_n x (position W o (d % W + i))) em ∙ mask_in W o (d % W) n (d % W + i) fits (omega arith) (omega arith))
    ∙ sym (bit_bit v (position W o (d % W + i))))
    (λ i l. select_off m w v (position W o i) (ap (λ (x : ℕ). bit_n x (position W o i)) em ∙ mask_out W o (d % W) n i fits (omega arith) (inl l)))
    (λ i l k. select_off m w v (position W o i) (ap (λ (x : ℕ). bit_n x (position W o i)) em ∙ mask_out W o (d % W) n i fits k (inr l)))
    ∙ ap (λ (x : ℕ). spliced W o ws x n (λ i. bit_n v (position W o (d % W + i)))) (div-add-mod' d W)
  where
    w : ℕ
    w = get_or ws (d / W) 0
