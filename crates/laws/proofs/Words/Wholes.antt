-- Whole words, of a field and of a row: one after another, and lent on as a part of the words. Assumes nothing.
use mathlib.Core.Path.{◌≡◌, refl, sym, ap, ap₂, ◌∙◌}
use mathlib.Core.List.{List}
use Prim.Native.Nat.{ℕ, ◌+◌, ◌-◌, ◌*◌, ◌/◌, ◌%◌, ◌^◌, ◌≤◌, ◌<◌}
use native.Mathlib.Nat.{mod-eq_of_lt, add-zero, zero-add, add-mul, one-mul, mul-one, zero-mul, div-one, mul-add-div_right, add_assoc}
use native.Mathlib.Omega.{arith}
use lib.ListN.{length, get_or, set, take, drop}
use lib.Bits.{and_zero_r, or_zero_l}
use borrow.Rule.Slice.PartMut.{put_mid, mid_of}
use Rattle.laws.specs.Types.{Order, Lsb0, Msb0, Significance, Le, Be}
use Rattle.rules.specs.Bits.{bit_n, of_bits}
use Rattle.rules.specs.Positions.{row, from_row, over, spliced, position}
use Rattle.rules.specs.Fields.{piece_from, piece_upto, exponent, weigh, load_of, store_of}
use Rattle.rules.proofs.Rows.Row.{Words, from_row_ext, from_row_words}
use Rattle.rules.proofs.Rows.Splice.{over_inside, splice_eq}
use Rattle.laws.proofs.Rows.Part.{row_part, lent_on, part_word, mid_length}
use Rattle.rules.proofs.Fields.Field.{lowest, load_one, load_is, load_bit, load_lt}
use Rattle.laws.proofs.Fields.Chunk.{masked, store_one}
use Rattle.laws.proofs.Fields.Cuts.{joined, first_of_value, rest_of_value, load_cut, store_cut, words_store, length_store, first_first}
use Rattle.rules.proofs.Bits.Digits.{of_bits_ext}
use Rattle.laws.proofs.Words.Funnel.{funneled}
use Rattle.laws.proofs.Words.Moves.{word_from, from_word, from_funnel}

-- word i of a row from place s on
unfoldable pub word_on : ℕ → Order → List ℕ → ℕ → ℕ → ℕ
word_on W o ws s i = of_bits W (λ p. row W o ws (s + (i * W + position W o p)))

further : (W : ℕ) (o : Order) (ws : List ℕ) (b i h s : ℕ) → b * W + h ≡ s → word_from W o ws ((b + i) * W + h) ≡ word_on W o ws s i
unfolding word_from word_on
further W o ws b i h s e =
    of_bits_ext W (λ p. row W o ws ((b + i) * W + h + position W o p)) (λ p. row W o ws (s + (i * W + position W o p)))
    (λ p l. ap (λ (x : ℕ). row W o ws x % 2) (omega (arith, add-mul b i W, e)))

module _ (W : ℕ) (o : Order) (ws : List ℕ) (b s : ℕ) (words : Words W ws) where
  -- at equal heads it is a word as it stands, else it is joined of two
  pub word_plain : b * W + 0 ≡ s → (i : ℕ) → get_or ws (b + i) 0 ≡ word_on W o ws s i
  word_plain es i = from_word W o ws (b + i) words ∙ further W o ws b i 0 s es

  pub word_joined : (h : ℕ) → h < W → b * W + h ≡ s → (i : ℕ) → funneled W o h (get_or ws (b + i) 0) (get_or ws (b + i + 1) 0) ≡ word_on W o ws s i
  word_joined h l es i = from_funnel W o h l ws (b + i) words ∙ further W o ws b i h s es

  -- the same in a part
  pub part_plain : b * W + 0 ≡ s → (m i : ℕ) → i < m → get_or (take m (drop b ws)) i 0 ≡ word_on W o ws s i
  part_plain es m i l = part_word ws b m i l ∙ word_plain es i

  pub part_joined : (h : ℕ) → h < W → b * W + h ≡ s → (m i : ℕ) → i + 1 < m
      → funneled W o h (get_or (take m (drop b ws)) i 0) (get_or (take m (drop b ws)) (i + 1) 0) ≡ word_on W o ws s i
  part_joined h lh es m i l =
      ap₂ (funneled W o h) (part_word ws b m i (omega arith)) (part_word ws b m (i + 1) l ∙ ap (λ (x : ℕ). get_or ws x 0) (sym (add_assoc b i 1)))
      ∙ word_joined h lh es i

module _ (W : ℕ) (pos : 0 < W) (o : Order) (ws left : List ℕ) (a n k d : ℕ) (en : n ≡ k) (ed : a * W ≡ d) (room : a + k ≤ length ws) (words : Words W ws)
    (len : length left ≡ length (mid_of a n ws)) where
  -- each word of the part has the bits of f
  pub lent_words : (f : ℕ → ℕ) → ((i : ℕ) → i < k → get_or left i 0 ≡ of_bits W (λ p. f (i * W + position W o p))) → put_mid a n ws left ≡ spliced W o ws d (k * W) f
  lent_words f new =
      lent_on W pos o ws a n k f en room words
      (from_row_words W pos o (length (mid_of a n ws)) f left len
      (λ i l. new i (omega (arith, l, mid_length ws a n k en room))))
      ∙ ap (λ (x : ℕ). spliced W o ws x (k * W) f) ed

  -- each is a word of a second row
  pub lent_row : (src : List ℕ) (s : ℕ) → ((i : ℕ) → i < k → get_or left i 0 ≡ word_on W o src s i) → put_mid a n ws left ≡ spliced W o ws d (k * W) (λ j. row W o src (s + j))
  unfolding word_on
  lent_row src s new = lent_words (λ j. row W o src (s + j)) new

-- ---- one word

lowest_whole : (W : ℕ) (o : Order) → lowest W o 0 W ≡ 0
unfolding lowest
lowest_whole W Lsb0 = refl
lowest_whole W Msb0 = omega arith

module _ (W : ℕ) (pos : 0 < W) (o : Order) (g : Significance) (ws : List ℕ) (words : Words W ws) (i : ℕ) where
  pub load_word : load_of W o g ws (i * W) W ≡ get_or ws i 0
  load_word =
      ap (λ (x : ℕ). load_of W o g ws x W) (sym (add-zero (i * W))) ∙ load_one W pos i 0 W (omega arith) o g ws
      ∙ ap (λ (x : ℕ). get_or ws i 0 / 2 ^ x % 2 ^ W) (lowest_whole W o) ∙ ap (λ (x : ℕ). x % 2 ^ W) (div-one (get_or ws i 0)) ∙ mod-eq_of_lt (words i)

  pub store_word : i < length ws → (v : ℕ) → set ws i (v % 2 ^ W) ≡ store_of W o g ws (i * W) W v
  unfolding masked
  store_word room v =
      let none : 2 ^ W - 1 - (2 ^ W - 1) * 2 ^ lowest W o 0 W ≡ 0 = rw (lowest_whole W o, mul-one (2 ^ W - 1)) (omega arith) in
      let all : v % 2 ^ W * 2 ^ lowest W o 0 W ≡ v % 2 ^ W = rw (lowest_whole W o) (mul-one (v % 2 ^ W)) in
      let e : masked W (get_or ws i 0) (lowest W o 0 W) W v ≡ v % 2 ^ W = rw (none, all, and_zero_r (get_or ws i 0)) (or_zero_l (v % 2 ^ W)) in
      ap (set ws i) (sym e) ∙ store_one W pos o g ws i room words 0 W (omega arith) v ∙ ap (λ (x : ℕ). store_of W o g ws x W v) (add-zero (i * W))

-- ---- one word after another

next : (W i : ℕ) → i * W + W ≡ (i + 1) * W
next W i = omega (arith, add-mul i 1 W, one-mul W)

pub load_none : (W : ℕ) (o : Order) (g : Significance) (ws : List ℕ) (at : ℕ) → 0 ≡ load_of W o g ws at (0 * W)
unfolding load_of weigh
load_none W o g ws at = rw (zero-mul W)

pub load_more : (W : ℕ) → 0 < W → (o : Order) (g : Significance) (ws : List ℕ) → Words W ws → (i : ℕ) {x : ℕ} → x ≡ load_of W o g ws 0 (i * W)
    → joined g x (i * W) (get_or ws i 0) W ≡ load_of W o g ws 0 ((i + 1) * W)
load_more W pos o g ws words i {x} e =
    ap₂ (λ (x y : ℕ). joined g x (i * W) y W) e (sym (load_word W pos o g ws words i) ∙ ap (λ (x : ℕ). load_of W o g ws x W) (sym (zero-add (i * W))))
    ∙ load_cut W pos o g ws 0 (i * W) W i (zero-add (i * W)) ∙ ap (load_of W o g ws 0) (next W i)

-- n bits of the value follow those of the words up to and with the i-th
pub store_more : (W : ℕ) → 0 < W → (o : Order) (g : Significance) (ws : List ℕ) (i n v : ℕ) → i < length ws → {xs : List ℕ} → xs ≡ store_of W o g ws 0 (i * W) (first_of_value g v (n + W))
    → set xs i (rest_of_value g (first_of_value g v n) (i * W) % 2 ^ W) ≡ store_of W o g ws 0 ((i + 1) * W) (first_of_value g v n)
store_more W pos o g ws i n v room {xs} e =
    let fit : Words W xs = rw e (words_store W o g ws 0 (i * W) (first_of_value g v (n + W))) in
    let len : length xs ≡ length ws = ap length e ∙ length_store W o g ws 0 (i * W) (first_of_value g v (n + W)) in
    store_word W pos o g xs fit i (omega arith) (rest_of_value g (first_of_value g v n) (i * W))
    ∙ ap₂ (λ (ys : List ℕ) (x : ℕ). store_of W o g ys x W (rest_of_value g (first_of_value g v n) (i * W)))
    (e ∙ ap (store_of W o g ws 0 (i * W)) (sym (first_first g v n W))) (sym (zero-add (i * W)))
    ∙ store_cut W pos o g ws 0 (i * W) W i (zero-add (i * W)) (first_of_value g v n) ∙ ap (λ (x : ℕ). store_of W o g ws 0 x (first_of_value g v n)) (next W i)

-- ---- a part of the words

module _ (W : ℕ) (pos : 0 < W) (b : ℕ) where
  from_further : (i : ℕ) → piece_from W (b * W) i ≡ piece_from W 0 i
  unfolding piece_from
  from_further i = rw (mul-add-div_right pos b i, zero-add i) (omega (arith, add-mul b (i / W) W))

  upto_further : (len i : ℕ) → piece_upto W (b * W) len i ≡ piece_upto W 0 len i
  unfolding piece_upto
  upto_further len i = rw (mul-add-div_right pos b i, zero-add i) (omega (arith, add-mul b (i / W) W))

  -- whole words before a field change nothing in what its bits weigh
  pub exponent_further : (o : Order) (g : Significance) (len i : ℕ) → exponent W o g (b * W) len i ≡ exponent W o g 0 len i
  unfolding exponent
  exponent_further Lsb0 Le len i = refl
  exponent_further Msb0 Be len i = refl
  exponent_further Msb0 Le len i = rw (from_further i, upto_further len i)
  exponent_further Lsb0 Be len i = rw (from_further i, upto_further len i)

-- a load from a part is a load from the words
pub load_part : (W : ℕ) → 0 < W → (o : Order) (g : Significance) (ws : List ℕ) (b l n : ℕ) → n ≤ l * W → load_of W o g (take l (drop b ws)) 0 n ≡ load_of W o g ws (b * W) n
load_part W pos o g ws b l n h =
    load_is W pos o g ws (b * W) n (load_of W o g part 0 n) (load_lt W pos o g part 0 n)
    (λ i m. ap (bit_n (load_of W o g part 0 n)) (exponent_further W pos b o g n i) ∙ load_bit W pos o g part 0 n i m
    ∙ ap (row W o part) (zero-add i) ∙ row_part W pos o ws b l i (omega arith))
  where
    part : List ℕ
    part = take l (drop b ws)

-- a store over the whole of a list of words
store_all : (W : ℕ) → 0 < W → (o : Order) (g : Significance) (ws : List ℕ) (v : ℕ)
    → store_of W o g ws 0 (length ws * W) v ≡ from_row W o (length ws) (λ i. bit_n v (exponent W o g 0 (length ws * W) i))
unfolding store_of spliced
store_all W pos o g ws v =
    from_row_ext W pos o (length ws) (over 0 (length ws * W) b (row W o ws)) b
    (λ j h. ap (λ (x : ℕ). x % 2) (ap (over 0 (length ws * W) b (row W o ws)) (sym (zero-add j)) ∙ over_inside 0 (length ws * W) b (row W o ws) j h))
  where
    b : ℕ → ℕ
    b i = bit_n v (exponent W o g 0 (length ws * W) i)

-- a whole-word store in a part that was lent on, l words from the s-th on, is a store in the words
pub store_part : (W : ℕ) → 0 < W → (o : Order) (g : Significance) (ws : List ℕ) → Words W ws → (s l w : ℕ) → l ≡ w → s + w ≤ length ws → (v : ℕ) {ys : List ℕ}
    → ys ≡ store_of W o g (mid_of s l ws) 0 (length (mid_of s l ws) * W) v → put_mid s l ws ys ≡ store_of W o g ws (s * W) (w * W) v
unfolding store_of
store_part W pos o g ws words s l w e room v {ys} q =
    let len : length (mid_of s l ws) ≡ w = mid_length ws s l w e room in
    lent_on W pos o ws s l w (λ i. bit_n v (exponent W o g 0 (length (mid_of s l ws) * W) i)) e room words (q ∙ store_all W pos o g (mid_of s l ws) v)
    ∙ ap (λ (x : ℕ). spliced W o ws (s * W) (w * W) (λ i. bit_n v (exponent W o g 0 (x * W) i))) len
    ∙ splice_eq W pos o ws (s * W) (w * W) (λ i. bit_n v (exponent W o g 0 (w * W) i)) (λ i. bit_n v (exponent W o g (s * W) (w * W) i))
    (λ i m. ap (bit_n v) (sym (exponent_further W pos s o g (w * W) i)))
