-- Equality of two runs: by words, whose differences are gathered without a look at them in between, and by pieces. Assumes nothing.
use mathlib.Core.Path.{◌≡◌, refl, sym, ap, ap₂, ◌∙◌}
use mathlib.Core.Logic.{inl, inr}
use mathlib.Core.Bool.{Bool, true, false, false≢true}
use mathlib.Core.List.{List}
use Prim.Native.Nat.{ℕ, zero, suc, ◌+◌, ◌-◌, ◌*◌, ◌/◌, ◌%◌, ◌^◌, ◌≤◌, ◌<◌, min}
use native.Mathlib.Nat.{mod-lt, div-add-mod', div-lt_iff_lt-mul, add-mul}
use native.Mathlib.Decide.{dec_lt}
use native.Mathlib.Omega.{arith}
use lib.ListN.{get_or}
use lib.Arith.{digits_lt}
use lib.Dec.{eqb}
use borrow.Author.Tests.{eq-eqb, eqb-true}
use lib.Bits.{bit_and, bit_or, bit_xor, differ, xor_self, or_zero_r, and_le_l, and_le_r, or_add_and, xor_lt}
use Rattle.laws.specs.Types.{Order}
use Rattle.rules.specs.Bits.{bit_n}
use Rattle.rules.specs.Positions.{position, mask, row}
use Rattle.rules.specs.Rows.{same_bits}
use Rattle.rules.proofs.Bits.Bit.{bit_lt, bit_and_lem, bit_xor_lem, bit_of_zero, bits_ext, bit_small}
use Rattle.rules.proofs.Rows.Row.{Words, row_at, row_bit, position_lt, position_twice}
use Rattle.rules.proofs.Bits.Digits.{bit_of_bits, of_bits_is}
use Rattle.rules.proofs.Bits.Masks.{mask_in, mask_out}
use Rattle.laws.proofs.Words.Moves.{Carries}
use Rattle.laws.proofs.Words.Wholes.{word_on}
use Rattle.laws.proofs.Rows.Part.{row_near}
use Rattle.rules.proofs.Sentences.Sentences.{same_all, all_same}

-- b and c agree on 0 to n - 1
abbrev pub Agree : ℕ → (ℕ → ℕ) → (ℕ → ℕ) → Type 0
Agree n b c = (i : ℕ) → i < n → b i ≡ c i

-- a test t of that, told both ways
pub record Tells (t : Bool) (n : ℕ) (b c : ℕ → ℕ) : Type 0 where
  pub yes_all : t ≡ true → Agree n b c
  pub all_yes : Agree n b c → t ≡ true

-- a difference v: 0 exactly if they agree
pub record Differs (v : ℕ) (n : ℕ) (b c : ℕ → ℕ) : Type 0 where
  pub none_all : v ≡ 0 → Agree n b c
  pub all_none : Agree n b c → v ≡ 0

pub tells_same : (t : Bool) (n : ℕ) (b c : ℕ → ℕ) → Tells t n b c → t ≡ same_bits n b c
tells_same true n b c k = sym (all_same n b c (k.yes_all refl))
tells_same false n b c k = go (same_bits n b c) refl
  where
    go : (u : Bool) → same_bits n b c ≡ u → false ≡ same_bits n b c
    go true e = absurd (false≢true (k.all_yes (same_all n b c e)))
    go false e = sym e

-- the same of other names for the right side
pub tells_to : (t : Bool) (n : ℕ) (b c c' : ℕ → ℕ) → ((i : ℕ) → c i ≡ c' i) → Tells t n b c → Tells t n b c'
tells_to t n b c c' e k = record { yes_all = λ q i l. k.yes_all q i l ∙ e i; all_yes = λ all. k.all_yes (λ i l. all i l ∙ sym (e i)) }

-- the same of other names for both sides
pub tells_as : (t : Bool) (n : ℕ) (b c : ℕ → ℕ) {k : ℕ} (b' c' : ℕ → ℕ) → k ≡ n → ((i : ℕ) → i < n → b' i ≡ b i) → ((i : ℕ) → i < n → c' i ≡ c i) → Tells t k b' c' → Tells t n b c
tells_as t n b c {k} b' c' e eb ec d = record {
  yes_all = λ q i l. sym (eb i l) ∙ d.yes_all q i (rw e l) ∙ ec i l;
  all_yes = λ all. d.all_yes (λ i l. let m = rw e at l in eb i m ∙ all i m ∙ sym (ec i m));
}

-- a difference was seen, and a difference is tested
pub tells_no : (n : ℕ) (b c : ℕ → ℕ) → (Agree n b c → ⊥) → Tells false n b c
tells_no n b c never = record { yes_all = λ e. absurd (false≢true e); all_yes = λ all. absurd (never all) }

pub tells_zero : (v n : ℕ) (b c : ℕ → ℕ) → Differs v n b c → Tells (eqb v 0) n b c
tells_zero v n b c d = record { yes_all = λ e. d.none_all (eqb-true v 0 e); all_yes = λ all. eq-eqb v 0 (d.all_none all) }

-- ---- agreement goes on where it stopped

module _ (i n m : ℕ) (b c b' c' : ℕ → ℕ) (eb : (j : ℕ) → j < n → b' j ≡ b (i + j)) (ec : (j : ℕ) → j < n → c' j ≡ c (i + j)) where
  pub agree_on : i + n ≡ m → Agree i b c → Agree n b' c' → Agree m b c
  agree_on e low high k l = go (dec_lt k i)
    where
      go : Dec (k < i) → b k ≡ c k
      go (yes h) = low k h
      go (no h) =
          let q : i + (k - i) ≡ k = omega arith in
          rw q at (sym (eb (k - i) (omega arith)) ∙ high (k - i) (omega arith) ∙ ec (k - i) (omega arith))

  pub agree_off : i + n ≤ m → Agree m b c → Agree n b' c'
  agree_off e all k l = eb k l ∙ all (i + k) (omega arith) ∙ sym (ec k l)

  pub differs_on : i + n ≡ m → Agree i b c → (v : ℕ) → Differs v n b' c' → Differs v m b c
  differs_on e low v d = record { none_all = λ z. agree_on e low (d.none_all z); all_none = λ all. d.all_none (agree_off (omega arith) all) }

-- ---- differences of words, gathered

or_zero : (a b : ℕ) → bit_or a b ≡ 0 → (a ≡ 0) × (b ≡ 0)
or_zero a b e = (omega (arith, or_add_and a b, and_le_l a b, and_le_r a b, e), omega (arith, or_add_and a b, and_le_l a b, and_le_r a b, e))

-- two bits, and two numbers, that do not differ are one
differ_none : (x y : ℕ) → x < 2 → y < 2 → differ x y ≡ 0 → x ≡ y
differ_none zero y h l e = sym e
differ_none (suc x) zero h l e = absurd (omega (arith, e))
differ_none (suc x) (suc y) h l e = ap suc (differ_none x y (omega arith) (omega arith) e)

xor_zero : (a b : ℕ) → bit_xor a b ≡ 0 → a ≡ b
xor_zero a b e = bits_ext a b (λ k. differ_none (bit_n a k) (bit_n b k) (bit_lt a k) (bit_lt b k) (sym (bit_xor_lem a b k) ∙ ap (λ (x : ℕ). bit_n x k) e ∙ bit_of_zero k))

differ_self : (x y : ℕ) → x ≡ y → differ x y ≡ 0
differ_self x y e = rw e (self y)
  where
    self : (y : ℕ) → differ y y ≡ 0
    self zero = refl
    self (suc y) = self y

pub differs_none : {v : ℕ} → v ≡ 0 → (b c : ℕ → ℕ) → Differs v 0 b c
differs_none z b c = record { none_all = λ e i l. absurd (omega arith); all_none = λ all. z }

pub differs_more : (v i x y : ℕ) (b c : ℕ → ℕ) → x ≡ b i → y ≡ c i → Differs v i b c → Differs (bit_or v (bit_xor x y)) (i + 1) b c
differs_more v i x y b c ex ey d = record { none_all = λ e k l. go e k l (dec_lt k i); all_none = back }
  where
    go : bit_or v (bit_xor x y) ≡ 0 → (k : ℕ) → k < i + 1 → Dec (k < i) → b k ≡ c k
    go e k l (yes h) = d.none_all (or_zero v (bit_xor x y) e).0 k h
    go e k l (no h) = let q : k ≡ i = omega arith in rw q (sym ex ∙ xor_zero x y (or_zero v (bit_xor x y) e).1 ∙ ey)

    back : Agree (i + 1) b c → bit_or v (bit_xor x y) ≡ 0
    back all =
        let e : x ≡ y = ex ∙ all i (omega arith) ∙ sym ey in
        ap₂ (λ (p q : ℕ). bit_or p (bit_xor q y)) (d.all_none (λ k l. all k (omega arith))) e ∙ ap (bit_or 0) (xor_self y) ∙ or_zero_r 0

-- ---- words and the bits of rows

module _ (W : ℕ) (pos : 0 < W) (o : Order) (ws vs : List ℕ) (p q a k : ℕ) (ep : a * W ≡ p) (words : Words W ws) where
  pub words_agree : Agree k (λ i. get_or ws (a + i) 0) (word_on W o vs q) → Agree (k * W) (λ j. row W o ws (p + j)) (λ j. row W o vs (q + j))
  unfolding word_on
  words_agree all j l =
      let e : p + j ≡ (a + j / W) * W + j % W = omega (arith, ep, add-mul a (j / W) W, div-add-mod' j W) in
      let m = mod-lt j pos in
      let f : q + (j / W * W + position W o (position W o (j % W))) ≡ q + j = ap (λ (x : ℕ). q + (j / W * W + x)) (position_twice W o (j % W) m) ∙ omega (arith, div-add-mod' j W) in
      ap (row W o ws) e ∙ row_at W o ws (a + j / W) (j % W) m
      ∙ ap (λ (x : ℕ). bit_n x (position W o (j % W))) (all (j / W) ((div-lt_iff_lt-mul pos).1 l))
      ∙ bit_of_bits W (λ r. row W o vs (q + (j / W * W + position W o r))) (position W o (j % W)) (position_lt W o (j % W) m)
      ∙ row_bit W o vs (q + (j / W * W + position W o (position W o (j % W)))) ∙ ap (row W o vs) f

  pub agree_words : Agree (k * W) (λ j. row W o ws (p + j)) (λ j. row W o vs (q + j)) → Agree k (λ i. get_or ws (a + i) 0) (word_on W o vs q)
  unfolding word_on
  agree_words all i l =
      of_bits_is W (get_or ws (a + i) 0) (λ r. row W o vs (q + (i * W + position W o r))) (words (a + i))
      (λ r m.
      let e : p + (i * W + position W o r) ≡ (a + i) * W + position W o r = omega (arith, ep, add-mul a i W) in
      sym (ap (row W o ws) e ∙ row_at W o ws (a + i) (position W o r) (position_lt W o r m) ∙ ap (bit_n (get_or ws (a + i) 0)) (position_twice W o r m))
      ∙ all (i * W + position W o r) (digits_lt l (position_lt W o r m)) ∙ sym (row_bit W o vs (q + (i * W + position W o r))))

  pub words_tell : (t : Bool) → Tells t k (λ i. get_or ws (a + i) 0) (word_on W o vs q) → Tells t (k * W) (λ j. row W o ws (p + j)) (λ j. row W o vs (q + j))
  words_tell t d = record { yes_all = λ e. words_agree (d.yes_all e); all_yes = λ all. d.all_yes (agree_words all) }

-- ---- a piece within one word, under a mask

module _ (W : ℕ) (pos : 0 < W) (o : Order) (ws vs : List ℕ) (p q n v m : ℕ) (fits : p % W + n ≤ W) (words : Words W ws) (small : v < 2 ^ W)
    (carries : Carries W o v (p % W) n (λ i. row W o vs (q + i))) (em : m ≡ mask W o (p % W) (p % W + n)) where
  abbrev w : ℕ
  w = get_or ws (p / W) 0

  as_bits : (i : ℕ) → bit_n (bit_and (bit_xor w v) m) (position W o i)
      ≡ min (differ (bit_n w (position W o i)) (bit_n v (position W o i))) (bit_n (mask W o (p % W) (p % W + n)) (position W o i))
  as_bits i =
      bit_and_lem (bit_xor w v) m (position W o i) ∙ ap (λ (x : ℕ). min x (bit_n m (position W o i))) (bit_xor_lem w v (position W o i))
      ∙ ap (λ (x : ℕ). min (differ (bit_n w (position W o i)) (bit_n v (position W o i))) (bit_n x (position W o i))) em

  piece_all : bit_and (bit_xor w v) m ≡ 0 → Agree n (λ i. row W o ws (p + i)) (λ i. row W o vs (q + i))
  piece_all z i l =
      let j = position W o (p % W + i) in
      let d : min (differ (bit_n w (position W o (p % W + i))) (bit_n v (position W o (p % W + i)))) (bit_n (mask W o (p % W) (p % W + n)) (position W o (p % W + i))) ≡ 0 =
      sym (as_bits (p % W + i)) ∙ ap (λ (x : ℕ). bit_n x (position W o (p % W + i))) z ∙ bit_of_zero (position W o (p % W + i)) in
      row_near W o ws p i (omega arith)
      ∙ differ_none (bit_n w j) (bit_n v j) (bit_lt w j) (bit_lt v j) (omega (arith, d, mask_in W o (p % W) n (p % W + i) fits (omega arith) (omega arith)))
      ∙ carries i l

  all_piece : Agree n (λ i. row W o ws (p + i)) (λ i. row W o vs (q + i)) → bit_and (bit_xor w v) m ≡ 0
  all_piece all = bits_ext (bit_and (bit_xor w v) m) 0 (λ j. go j (dec_lt j W) ∙ sym (bit_of_zero j))
    where
      index : (i : ℕ) → i < W → Dec (i < p % W) → Dec (i < p % W + n) → bit_n (bit_and (bit_xor w v) m) (position W o i) ≡ 0
      index i l (yes a) y = as_bits i ∙ omega (arith, mask_out W o (p % W) n i fits l (inl a))
      index i l (no a) (no b) = as_bits i ∙ omega (arith, mask_out W o (p % W) n i fits l (inr (omega arith)))
      index i l (no a) (yes b) =
          let e : p % W + (i - p % W) ≡ i = omega arith in
          let s : bit_n w (position W o i) ≡ bit_n v (position W o i) =
          rw e at (sym (row_near W o ws p (i - p % W) (omega arith)) ∙ all (i - p % W) (omega arith) ∙ sym (carries (i - p % W) (omega arith))) in
          as_bits i ∙ omega (arith, differ_self (bit_n w (position W o i)) (bit_n v (position W o i)) s)

      go : (j : ℕ) → Dec (j < W) → bit_n (bit_and (bit_xor w v) m) j ≡ 0
      go j (no h) = bit_small (bit_and (bit_xor w v) m) W j (omega (arith, and_le_l (bit_xor w v) m, xor_lt W w v (words (p / W)) small)) (omega arith)
      go j (yes h) =
          ap (bit_n (bit_and (bit_xor w v) m)) (sym (position_twice W o j h))
          ∙ index (position W o j) (position_lt W o j h) (dec_lt (position W o j) (p % W)) (dec_lt (position W o j) (p % W + n))

  pub piece_differs : Differs (bit_and (bit_xor w v) m) n (λ i. row W o ws (p + i)) (λ i. row W o vs (q + i))
  piece_differs = record { none_all = piece_all; all_none = all_piece }
