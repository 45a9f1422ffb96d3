-- Whole words of a number in the other sequence: what a le load of 2 ^ n words gives, turned, is what a be load of them gives. Assumes nothing.
use mathlib.Core.Path.{◌≡◌, sym, ap, ap₂, ◌∙◌}
use mathlib.Core.List.{List}
use Prim.Native.Nat.{ℕ, zero, suc, ◌+◌, ◌-◌, ◌*◌, ◌/◌, ◌%◌, ◌^◌, ◌<◌}
use native.Mathlib.Nat.{add-zero, add-mul, mul_comm, mul_assoc, mul-one, pow-suc}
use native.Mathlib.Omega.{arith}
use lib.Arith.{digits_div, digits_mod}
use lib.Bits.{bit_and, and_mask}
use lib.ListN.{get_or}
use Rattle.laws.specs.Types.{Order, Significance, Le, Be}
use Rattle.rules.specs.Fields.{load_of}
use Rattle.rules.proofs.Fields.Field.{lowest, load_lt, load_one}
use Rattle.laws.proofs.Fields.Cuts.{joined, load_cut}

-- 2 ^ n words of W bits, the last first: each half turned, and the halves exchanged
unfoldable pub turned : ℕ → ℕ → ℕ → ℕ
turned W zero x = x
turned W (suc n) x = turned W n (x % 2 ^ (W * 2 ^ n)) * 2 ^ (W * 2 ^ n) + turned W n (x / 2 ^ (W * 2 ^ n))

-- as code turns them: each half, the low one by a mask, and the halves joined
pub turned_halves : (W n x : ℕ) {a b : ℕ} → a ≡ turned W n (bit_and x (2 ^ (W * 2 ^ n) - 1)) → b ≡ turned W n (x / 2 ^ (W * 2 ^ n))
    → joined Be a (W * 2 ^ n) b (W * 2 ^ n) ≡ turned W (suc n) x
unfolding turned joined
turned_halves W n x d e = ap₂ (λ (y z : ℕ). y * 2 ^ (W * 2 ^ n) + z) (d ∙ ap (turned W n) (and_mask x (W * 2 ^ n))) e

module _ (W : ℕ) (pos : 0 < W) (o : Order) (ws : List ℕ) where
  -- one word has no significance to heed
  one : (k : ℕ) → load_of W o Le ws (k * W) (W * 2 ^ 0) ≡ load_of W o Be ws (k * W) (W * 2 ^ 0)
  one k = word Le ∙ sym (word Be)
    where
      word : (g : Significance) → load_of W o g ws (k * W) (W * 2 ^ 0) ≡ get_or ws k 0 / 2 ^ lowest W o 0 W % 2 ^ W
      word g =
          ap₂ (load_of W o g ws) (sym (add-zero (k * W))) (mul-one W)
          ∙ load_one W pos k 0 W (omega arith) o g ws

  pub turned_load : (n k : ℕ) → turned W n (load_of W o Le ws (k * W) (W * 2 ^ n)) ≡ load_of W o Be ws (k * W) (W * 2 ^ n)
  unfolding turned joined
  turned_load zero k = one k
  turned_load (suc n) k =
      ap (λ (x : ℕ). turned W n (x % 2 ^ m) * 2 ^ m + turned W n (x / 2 ^ m)) (both Le)
      ∙ ap₂ (λ (x y : ℕ). turned W n x * 2 ^ m + turned W n y)
      (digits_mod (half Le (k * W + m)) (load_lt W pos o Le ws (k * W) m))
      (digits_div (half Le (k * W + m)) (load_lt W pos o Le ws (k * W) m))
      ∙ ap₂ (λ (x y : ℕ). x * 2 ^ m + y) (turned_load n k) (second (turned_load n (k + 2 ^ n)))
      ∙ sym (both Be)
    where
      m : ℕ
      m = W * 2 ^ n

      half : Significance → ℕ → ℕ
      half g at = load_of W o g ws at m

      place : k * W + m ≡ (k + 2 ^ n) * W
      place = ap (λ (x : ℕ). k * W + x) (mul_comm W (2 ^ n)) ∙ sym (add-mul k (2 ^ n) W)

      double : W * 2 ^ suc n ≡ m + m
      double = ap (λ (x : ℕ). W * x) (pow-suc 2 n) ∙ sym (mul_assoc W (2 ^ n) 2) ∙ omega arith

      both : (g : Significance) → load_of W o g ws (k * W) (W * 2 ^ suc n) ≡ joined g (half g (k * W)) m (half g (k * W + m)) m
      both g = ap (load_of W o g ws (k * W)) double ∙ sym (load_cut W pos o g ws (k * W) m m (k + 2 ^ n) place)

      second : turned W n (half Le ((k + 2 ^ n) * W)) ≡ half Be ((k + 2 ^ n) * W) → turned W n (half Le (k * W + m)) ≡ half Be (k * W + m)
      second e = ap (λ (x : ℕ). turned W n (half Le x)) place ∙ e ∙ ap (half Be) (sym place)
