-- Boolean operations on words, stated once over the truth table: a word of results, a piece, whole words, and rows of pieces. Assumes nothing.
use mathlib.Core.Path.{◌≡◌, refl, sym, ap, ap₂, ◌∙◌}
use mathlib.Core.Logic.{◌⊎◌, inl, inr, ◌≢◌}
use mathlib.Core.Bool.{cond}
use mathlib.Core.List.{List}
use Prim.Native.Nat.{ℕ, zero, suc, ◌+◌, ◌-◌, ◌*◌, ◌/◌, ◌%◌, ◌^◌, ◌≤◌, ◌<◌, min}
use native.Mathlib.Nat.{add_assoc, add-mul}
use native.Mathlib.Omega.{arith}
use lib.ListN.{length, get_or}
use lib.Dec.{ltb}
use borrow.Author.Tests.{lt-ltb, le-ltb}
use lib.Bits.{bit_and, bit_or, bit_xor, and_lt, or_lt, xor_lt}
use lib.Pow.{pow_pos, ones_lt}
use borrow.Rule.Slice.PartMut.{put_mid, mid_of}
use Rattle.laws.specs.Types.{Order}
use Rattle.std.specs.Prelude.{map}
use Rattle.std.proofs.lemmas.List.{length-map}
use Rattle.rules.specs.Bits.{bit_n, of_bits}
use Rattle.rules.specs.Positions.{position, row, spliced}
use Rattle.rules.specs.Rows.{applied}
use Rattle.rules.proofs.Bits.Bit.{bit_lt, bit_bit, bit_cases_lem, bit_of_zero, bit_ones}
use Rattle.rules.proofs.Bits.Digits.{bit_of_bits, of_bits_is, of_bits_ext}
use Rattle.rules.proofs.Rows.Row.{Words, row_at, row_bit, position_lt, position_twice}
use Rattle.rules.proofs.Rows.Splice.{splice_eq, spliced_past}
use Rattle.rules.proofs.Sentences.Operations.{and_applied, or_applied, xor_applied}
use Rattle.laws.proofs.Words.Merged.{selected, select_on, select_off, select_lt}
use Rattle.laws.proofs.Words.Moves.{Carries}
use Rattle.laws.proofs.Words.Wholes.{word_on, lent_words}
use Rattle.laws.proofs.Rows.Part.{row_near, part_word, mid_length, grown}
use Rattle.laws.proofs.Words.Typed.{row_below, mid_map, lent_length, lent_map}

-- ---- one word

-- the operation on each pair of bits of two words
unfoldable pub wordwise : ℕ → ℕ → ℕ → ℕ → ℕ
wordwise W op a b = of_bits W (λ p. applied op (bit_n a p) (bit_n b p))

applied_bit : (op a b : ℕ) → applied op a b % 2 ≡ applied op a b
unfolding applied
applied_bit op a b = bit_bit op (2 * a + b)

pub wordwise_is : (W op a b : ℕ) {r : ℕ} → r < 2 ^ W → ((p : ℕ) → p < W → bit_n r p ≡ applied op (bit_n a p) (bit_n b p)) → r ≡ wordwise W op a b
unfolding wordwise
wordwise_is W op a b {r} small same =
    of_bits_is W r (λ p. applied op (bit_n a p) (bit_n b p)) small (λ p l. same p l ∙ sym (applied_bit op (bit_n a p) (bit_n b p)))

pub wordwise_bit : (W op a b p : ℕ) → p < W → bit_n (wordwise W op a b) p ≡ applied op (bit_n a p) (bit_n b p)
unfolding wordwise
wordwise_bit W op a b p l = bit_of_bits W (λ p. applied op (bit_n a p) (bit_n b p)) p l ∙ applied_bit op (bit_n a p) (bit_n b p)

-- the three of document 01
module _ (W a b : ℕ) {op : ℕ} (ha : a < 2 ^ W) (hb : b < 2 ^ W) where
  pub and_word : op ≡ 8 → bit_and a b ≡ wordwise W op a b
  and_word e = wordwise_is W 8 a b (and_lt W a b ha hb) (λ p l. and_applied a b p) ∙ ap (λ (x : ℕ). wordwise W x a b) (sym e)

  pub or_word : op ≡ 14 → bit_or a b ≡ wordwise W op a b
  or_word e = wordwise_is W 14 a b (or_lt W a b ha hb) (λ p l. or_applied a b p) ∙ ap (λ (x : ℕ). wordwise W x a b) (sym e)

  pub xor_word : op ≡ 6 → bit_xor a b ≡ wordwise W op a b
  xor_word e = wordwise_is W 6 a b (xor_lt W a b ha hb) (λ p l. xor_applied a b p) ∙ ap (λ (x : ℕ). wordwise W x a b) (sym e)

-- any, by the truth table: a bit of the number, spread over a word
unfoldable pub spread_of : ℕ → ℕ → ℕ
spread_of W zero = 0
spread_of W (suc x) = 2 ^ W - 1

pub spread_zero : (W x : ℕ) → x ≡ 0 → 0 ≡ spread_of W x
unfolding spread_of
spread_zero W zero e = refl
spread_zero W (suc x) e = absurd (omega (arith, e))

pub spread_one : (W x : ℕ) → x ≢ 0 → 2 ^ W - 1 ≡ spread_of W x
unfolding spread_of
spread_one W zero e = absurd (e refl)
spread_one W (suc x) e = refl

spread_lt : (W x : ℕ) → spread_of W x < 2 ^ W
unfolding spread_of
spread_lt W zero = pow_pos W
spread_lt W (suc x) = ones_lt W

spread_bit : (W x p : ℕ) → p < W → x < 2 → bit_n (spread_of W x) p ≡ x
unfolding spread_of
spread_bit W zero p h l = bit_of_zero p
spread_bit W (suc zero) p h l = bit_ones W p h
spread_bit W (suc (suc x)) p h l = absurd (omega arith)

module _ (W op a b t0 t1 t2 t3 low high : ℕ) (e0 : t0 ≡ spread_of W (bit_n op 0)) (e1 : t1 ≡ spread_of W (bit_n op 1)) (e2 : t2 ≡ spread_of W (bit_n op 2))
    (e3 : t3 ≡ spread_of W (bit_n op 3)) (el : low ≡ selected b t0 t1) (eh : high ≡ selected b t2 t3) where
  row_lt : (t u x y s : ℕ) → t ≡ spread_of W x → u ≡ spread_of W y → s ≡ selected b t u → s < 2 ^ W
  row_lt t u x y s p q e = rw (e, p, q) (select_lt W b (spread_of W x) (spread_of W y) (spread_lt W x) (spread_lt W y))

  told : (t k p : ℕ) → p < W → t ≡ spread_of W (bit_n op k) → bit_n t p ≡ bit_n op k
  told t k p l e = ap (λ (x : ℕ). bit_n x p) e ∙ spread_bit W (bit_n op k) p l (bit_lt op k)

  entry : (p k : ℕ) → 2 * bit_n a p + bit_n b p ≡ k → bit_n op k ≡ applied op (bit_n a p) (bit_n b p)
  unfolding applied
  entry p k e = ap (bit_n op) (sym e)

  bits : (p : ℕ) → p < W → (bit_n a p ≡ 0) ⊎ (bit_n a p ≡ 1) → (bit_n b p ≡ 0) ⊎ (bit_n b p ≡ 1) → bit_n (selected a low high) p ≡ applied op (bit_n a p) (bit_n b p)
  bits p l (inl x) (inl y) = select_off a low high p x ∙ ap (λ (z : ℕ). bit_n z p) el ∙ select_off b t0 t1 p y ∙ told t0 0 p l e0 ∙ entry p 0 (omega (arith, x, y))
  bits p l (inl x) (inr y) = select_off a low high p x ∙ ap (λ (z : ℕ). bit_n z p) el ∙ select_on b t0 t1 p y ∙ told t1 1 p l e1 ∙ entry p 1 (omega (arith, x, y))
  bits p l (inr x) (inl y) = select_on a low high p x ∙ ap (λ (z : ℕ). bit_n z p) eh ∙ select_off b t2 t3 p y ∙ told t2 2 p l e2 ∙ entry p 2 (omega (arith, x, y))
  bits p l (inr x) (inr y) = select_on a low high p x ∙ ap (λ (z : ℕ). bit_n z p) eh ∙ select_on b t2 t3 p y ∙ told t3 3 p l e3 ∙ entry p 3 (omega (arith, x, y))

  pub table_word : {r : ℕ} → r ≡ selected a low high → r ≡ wordwise W op a b
  table_word er =
      er ∙ wordwise_is W op a b
      (select_lt W a low high (row_lt t0 t1 (bit_n op 0) (bit_n op 1) low e0 e1 el) (row_lt t2 t3 (bit_n op 2) (bit_n op 3) high e2 e3 eh))
      (λ p l. bits p l (bit_cases_lem (bit_n a p) (bit_lt a p)) (bit_cases_lem (bit_n b p) (bit_lt b p)))

-- ---- a piece within one word, and whole words. R j is bit j of the right side

module _ (W : ℕ) (pos : 0 < W) (o : Order) (ws : List ℕ) (d op : ℕ) (R : ℕ → ℕ) where
  pub piece_combined : (n x v : ℕ) {out : List ℕ} → d % W + n ≤ W → v ≡ wordwise W op (get_or ws (d / W) 0) x → Carries W o x (d % W) n R
      → out ≡ spliced W o ws d n (λ i. bit_n v (position W o (d % W + i))) → out ≡ spliced W o ws d n (λ i. applied op (row W o ws (d + i)) (R i))
  piece_combined n x v fits ev carries got =
      got ∙ splice_eq W pos o ws d n (λ i. bit_n v (position W o (d % W + i))) (λ i. applied op (row W o ws (d + i)) (R i))
      (λ i l. ap (λ (y : ℕ). bit_n y (position W o (d % W + i))) ev
      ∙ wordwise_bit W op (get_or ws (d / W) 0) x (position W o (d % W + i)) (position_lt W o (d % W + i) (omega arith))
      ∙ ap₂ (applied op) (sym (row_near W o ws d i (omega arith))) (carries i l))

  -- a piece put from a word that carries the bits of R
  pub piece_carried : (n v : ℕ) {out : List ℕ} → Carries W o v (d % W) n R
      → out ≡ spliced W o ws d n (λ i. applied op (row W o ws (d + i)) (bit_n v (position W o (d % W + i)))) → out ≡ spliced W o ws d n (λ i. applied op (row W o ws (d + i)) (R i))
  piece_carried n v same e =
      e ∙ splice_eq W pos o ws d n (λ i. applied op (row W o ws (d + i)) (bit_n v (position W o (d % W + i)))) (λ i. applied op (row W o ws (d + i)) (R i))
      (λ i l. ap (applied op (row W o ws (d + i))) (same i l))

  pub words_combined : (left : List ℕ) (a n k : ℕ) → n ≡ k → a * W ≡ d → a + k ≤ length ws → Words W ws → length left ≡ length (mid_of a n ws) → (y : ℕ → ℕ)
      → ((i : ℕ) → i < k → get_or left i 0 ≡ wordwise W op (get_or (mid_of a n ws) i 0) (y i))
      → ((i : ℕ) → i < k → (p : ℕ) → p < W → bit_n (y i) p ≡ R (i * W + position W o p))
      → put_mid a n ws left ≡ spliced W o ws d (k * W) (λ j. applied op (row W o ws (d + j)) (R j))
  unfolding wordwise
  words_combined left a n k en ed room words len y new right =
      lent_words W pos o ws left a n k d en ed room words len (λ j. applied op (row W o ws (d + j)) (R j))
      (λ i l. new i l ∙ of_bits_ext W (λ p. applied op (bit_n (get_or (mid_of a n ws) i 0) p) (bit_n (y i) p)) (λ p. applied op (row W o ws (d + (i * W + position W o p))) (R (i * W + position W o p)))
      (λ p m. ap (λ (x : ℕ). x % 2) (ap₂ (applied op) (here i l p m) (right i l p m))))
    where
      here : (i : ℕ) → i < k → (p : ℕ) → p < W → bit_n (get_or (mid_of a n ws) i 0) p ≡ row W o ws (d + (i * W + position W o p))
      here i l p m =
          let e : d + (i * W + position W o p) ≡ (a + i) * W + position W o p = omega (arith, ed, add-mul a i W) in
          ap (λ (x : ℕ). bit_n x p) (part_word ws a n i (omega arith))
          ∙ sym (ap (row W o ws) e ∙ row_at W o ws (a + i) (position W o p) (position_lt W o p m) ∙ ap (bit_n (get_or ws (a + i) 0)) (position_twice W o p m))

  -- i bits, and the n after them: the left bits are those of the buffer by then
  pub combined_on : (i n m : ℕ) (S : ℕ → ℕ) {one two : List ℕ} → i + n ≡ m → d + m ≤ length ws * W → one ≡ spliced W o ws d i (λ j. applied op (row W o ws (d + j)) (R j))
      → two ≡ spliced W o one (d + i) n (λ j. applied op (row W o one (d + i + j)) (S j)) → ((j : ℕ) → j < n → S j ≡ R (i + j))
      → two ≡ spliced W o ws d m (λ j. applied op (row W o ws (d + j)) (R j))
  combined_on i n m S {one} {two} e fits p q same =
      grown W pos o ws d (λ j. applied op (row W o ws (d + j)) (R j)) i n m (λ j. applied op (row W o one (d + i + j)) (S j)) e p q
      (λ j l. ap₂ (applied op)
      (ap (row W o one) (add_assoc d i j) ∙ ap (λ (x : List ℕ). row W o x (d + (i + j))) p
      ∙ spliced_past W pos o ws d i (λ j. applied op (row W o ws (d + j)) (R j)) (omega arith) (d + (i + j)) (omega arith) (omega arith))
      (same j l))

-- whole words of a type that were lent on, the i-th combined with the number y i
pub lent_combined : {Word : Type 0} (value : Word → ℕ) (W : ℕ) → 0 < W → ((x : Word) → value x < 2 ^ W) → (o : Order) (ws left : List Word) (d op : ℕ) (R : ℕ → ℕ)
    → (a n k : ℕ) → n ≡ k → a * W ≡ d → a + k ≤ length ws → length left ≡ length (mid_of a n ws) → (y : ℕ → ℕ)
    → ((i : ℕ) → i < length (mid_of a n ws) → get_or (map value left) i 0 ≡ wordwise W op (get_or (map value (mid_of a n ws)) i 0) (y i))
    → ((i : ℕ) → i < k → (p : ℕ) → p < W → bit_n (y i) p ≡ R (i * W + position W o p))
    → map value (put_mid a n ws left) ≡ spliced W o (map value ws) d (k * W) (λ j. applied op (row W o (map value ws) (d + j)) (R j))
lent_combined value W pos below o ws left d op R a n k en ed room len y new right =
    let fits : a + k ≤ length (map value ws) = rw (length-map ws value) room in
    let many = mid_length ws a n k en room in
    lent_map value a n ws left
    ∙ words_combined W pos o (map value ws) d op R (map value left) a n k en ed fits (row_below value W below ws) (lent_length value a n ws left len) y
    (λ i l. new i (omega arith) ∙ ap (λ (x : List ℕ). wordwise W op (get_or x i 0) (y i)) (mid_map value a n ws)) right

-- the bits of a right word, and of none
pub right_word : (W : ℕ) (o : Order) (vs : List ℕ) (s i : ℕ) {y : ℕ} → y ≡ word_on W o vs s i → (p : ℕ) → p < W → bit_n y p ≡ row W o vs (s + (i * W + position W o p))
unfolding word_on
right_word W o vs s i e p l =
    ap (λ (x : ℕ). bit_n x p) e ∙ bit_of_bits W (λ p. row W o vs (s + (i * W + position W o p))) p l ∙ row_bit W o vs (s + (i * W + position W o p))

-- ---- a right side that ends: n bits of b, and none after them

unfoldable pub until : ℕ → (ℕ → ℕ) → ℕ → ℕ
until n b i = cond (ltb i n) (b i) 0

pub until_in : (n : ℕ) (b : ℕ → ℕ) (i : ℕ) → i < n → until n b i ≡ b i
unfolding until
until_in n b i h = rw (lt-ltb i n h)

pub until_out : (n : ℕ) (b : ℕ → ℕ) (i : ℕ) → n ≤ i → until n b i ≡ 0
unfolding until
until_out n b i h = rw (le-ltb i n h)

-- as many bits as both sides have, and then the rest of the left
pub combined_short : (W : ℕ) → 0 < W → (o : Order) (ws : List ℕ) (d op len n m : ℕ) (b : ℕ → ℕ) {one two : List ℕ} → m ≡ min len n → d + len ≤ length ws * W
    → one ≡ spliced W o ws d m (λ j. applied op (row W o ws (d + j)) (b j)) → two ≡ spliced W o one (d + m) (len - m) (λ j. applied op (row W o one (d + m + j)) 0)
    → two ≡ spliced W o ws d len (λ j. applied op (row W o ws (d + j)) (until n b j))
combined_short W pos o ws d op len n m b e fits p q =
    combined_on W pos o ws d op (until n b) m (len - m) len (λ _. 0) (omega arith) fits
    (p ∙ splice_eq W pos o ws d m (λ j. applied op (row W o ws (d + j)) (b j)) (λ j. applied op (row W o ws (d + j)) (until n b j))
    (λ j l. ap (applied op (row W o ws (d + j))) (sym (until_in n b j (omega arith)))))
    q (λ j l. sym (until_out n b (m + j) (omega arith)))
