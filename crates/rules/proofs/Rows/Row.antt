-- Positions, real positions and rows of a buffer; a buffer is determined by its length and its row. Assumes nothing.
use mathlib.Core.Path.{◌≡◌, refl, sym, ap, ap₂, ◌∙◌}
use mathlib.Core.List.{List, [], ◌∷◌, map}
use Prim.Native.Nat.{ℕ, ◌+◌, ◌*◌, ◌/◌, ◌%◌, ◌^◌, ◌≤◌, ◌<◌}
use native.Mathlib.Nat.{mod-lt, mod-mod, div-add-mod', div-lt_iff_lt-mul, le-div_iff_mul-le}
use native.Mathlib.Decide.{dec_lt}
use native.Mathlib.Omega.{arith}
use lib.Arith.{digits_div, digits_mod, digits_lt}
use lib.Pow.{pow_pos}
use lib.ListN.{length, get_or, get_or-eq_default}
use lib.Seq.{ext_get_or}
use Rattle.rules.specs.Types.{Order, Lsb0, Msb0}
use Rattle.rules.specs.Bits.{bit_n, of_bits, bit_at, from_bits}
use Rattle.rules.specs.Positions.{position, mirror, row, from_row}
use Rattle.rules.proofs.Bits.Bit.{bit_lt, bit_of_zero}
use Rattle.rules.proofs.Bits.Weigh.{Renumbers}
use Rattle.rules.proofs.Bits.Digits.{bit_of_bits, of_bits_lt, of_bits_is, of_bits_ext, length_tabulate, get_or_tabulate}

-- positions 0 to 7 of a byte
positions : map (position 8 Msb0) (0 ∷ 1 ∷ 2 ∷ 7 ∷ []) ≡ 7 ∷ 6 ∷ 5 ∷ 0 ∷ []
unfolding position
positions = refl

-- every word is below 2 ^ W
abbrev pub Words : ℕ → List ℕ → Type 0
Words W ws = (k : ℕ) → get_or ws k 0 < 2 ^ W

-- ---- positions

pub position_renumbers : (W : ℕ) (o : Order) → Renumbers W (position W o) (position W o)
unfolding position
position_renumbers W Lsb0 = record { below = λ i h. h; back_below = λ i h. h; back = λ i h. refl; forth = λ i h. refl }
position_renumbers W Msb0 = record { below = λ i h. omega arith; back_below = λ i h. omega arith; back = λ i h. omega arith; forth = λ i h. omega arith }

pub position_lt : (W : ℕ) (o : Order) (i : ℕ) → i < W → position W o i < W
position_lt W o i h = (position_renumbers W o).below i h

pub position_twice : (W : ℕ) (o : Order) (i : ℕ) → i < W → position W o (position W o i) ≡ i
position_twice W o i h = (position_renumbers W o).back i h

pub mirror_at : (W : ℕ) (o : Order) (k i : ℕ) → i < W → mirror W o (k * W + i) ≡ k * W + position W o i
unfolding mirror
mirror_at W o k i h = ap₂ (λ (x y : ℕ). x * W + position W o y) (digits_div k h) (digits_mod k h)

module _ (W : ℕ) (pos : 0 < W) (o : Order) where
  pub mirror_twice : (j : ℕ) → mirror W o (mirror W o j) ≡ j
  mirror_twice j =
      ap (λ (x : ℕ). mirror W o (mirror W o x)) (sym (div-add-mod' j W)) ∙ ap (mirror W o) (mirror_at W o (j / W) (j % W) (mod-lt j pos))
      ∙ mirror_at W o (j / W) (position W o (j % W)) (position_lt W o (j % W) (mod-lt j pos))
      ∙ ap (λ (x : ℕ). j / W * W + x) (position_twice W o (j % W) (mod-lt j pos)) ∙ div-add-mod' j W

  pub mirror_lt : (n j : ℕ) → j < n * W → mirror W o j < n * W
  unfolding mirror
  mirror_lt n j h = digits_lt ((div-lt_iff_lt-mul pos).1 h) (position_lt W o (j % W) (mod-lt j pos))

-- ---- bits at real positions

pub bit_at_at : (W : ℕ) (ws : List ℕ) (k p : ℕ) → p < W → bit_at W ws (k * W + p) ≡ bit_n (get_or ws k 0) p
unfolding bit_at
bit_at_at W ws k p h = ap₂ (λ (x y : ℕ). bit_n (get_or ws x 0) y) (digits_div k h) (digits_mod k h)

pub bit_at_lt : (W : ℕ) (ws : List ℕ) (q : ℕ) → bit_at W ws q < 2
unfolding bit_at
bit_at_lt W ws q = bit_lt (get_or ws (q / W) 0) (q % W)

pub bit_at_bit : (W : ℕ) (ws : List ℕ) (q : ℕ) → bit_at W ws q % 2 ≡ bit_at W ws q
unfolding bit_at bit_n
bit_at_bit W ws q = mod-mod (get_or ws (q / W) 0 / 2 ^ (q % W)) 2

-- past the end every bit is 0
pub bit_at_past : (W : ℕ) → 0 < W → (ws : List ℕ) (q : ℕ) → length ws * W ≤ q → bit_at W ws q ≡ 0
unfolding bit_at
bit_at_past W pos ws q h = ap (λ (x : ℕ). bit_n x (q % W)) (get_or-eq_default ws 0 ((le-div_iff_mul-le pos).1 h)) ∙ bit_of_zero (q % W)

pub length_from_bits : (W n : ℕ) (f : ℕ → ℕ) → length (from_bits W n f) ≡ n
unfolding from_bits
length_from_bits W n f = length_tabulate n (λ k. of_bits W (λ p. f (k * W + p)))

pub get_or_from_bits : (W n : ℕ) (f : ℕ → ℕ) (k : ℕ) → k < n → get_or (from_bits W n f) k 0 ≡ of_bits W (λ p. f (k * W + p))
unfolding from_bits
get_or_from_bits W n f k h = get_or_tabulate n (λ k. of_bits W (λ p. f (k * W + p))) k h

pub words_from_bits : (W n : ℕ) (f : ℕ → ℕ) → Words W (from_bits W n f)
words_from_bits W n f k = go (dec_lt k n)
  where
    go : Dec (k < n) → get_or (from_bits W n f) k 0 < 2 ^ W
    go (yes h) = rw (get_or_from_bits W n f k h) (of_bits_lt W (λ p. f (k * W + p)))
    go (no h) = rw (get_or-eq_default (from_bits W n f) 0 {n = k} (rw (length_from_bits W n f) (omega arith))) (pow_pos W)

pub bit_from_bits : (W : ℕ) → 0 < W → (n : ℕ) (f : ℕ → ℕ) (q : ℕ) → q < n * W → bit_at W (from_bits W n f) q ≡ f q % 2
unfolding bit_at
bit_from_bits W pos n f q h =
    ap (λ (x : ℕ). bit_n x (q % W)) (get_or_from_bits W n f (q / W) ((div-lt_iff_lt-mul pos).1 h))
    ∙ bit_of_bits W (λ p. f (q / W * W + p)) (q % W) (mod-lt q pos)
    ∙ ap (λ (x : ℕ). f x % 2) (div-add-mod' q W)

-- a buffer is determined by its bits
pub is_from_bits : (W n : ℕ) (f : ℕ → ℕ) (ws : List ℕ) → length ws ≡ n → Words W ws → ((q : ℕ) → q < n * W → bit_at W ws q ≡ f q % 2) → ws ≡ from_bits W n f
is_from_bits W n f ws len words same =
    ext_get_or 0 ws (from_bits W n f) (len ∙ sym (length_from_bits W n f))
    (λ k h. of_bits_is W (get_or ws k 0) (λ p. f (k * W + p)) (words k) (λ p l. sym (bit_at_at W ws k p l) ∙ same (k * W + p) (digits_lt (rw len at h) l))
    ∙ sym (get_or_from_bits W n f k (rw len at h)))

pub buffers_ext : (W : ℕ) (ws vs : List ℕ) → length ws ≡ length vs → Words W ws → Words W vs → ((q : ℕ) → bit_at W ws q ≡ bit_at W vs q) → ws ≡ vs
buffers_ext W ws vs len a b same =
    is_from_bits W (length vs) (bit_at W vs) ws len a (λ q h. same q ∙ sym (bit_at_bit W vs q))
    ∙ sym (is_from_bits W (length vs) (bit_at W vs) vs refl b (λ q h. sym (bit_at_bit W vs q)))

-- ---- rows

pub row_lt : (W : ℕ) (o : Order) (ws : List ℕ) (j : ℕ) → row W o ws j < 2
unfolding row
row_lt W o ws j = bit_at_lt W ws (mirror W o j)

pub row_bit : (W : ℕ) (o : Order) (ws : List ℕ) (j : ℕ) → row W o ws j % 2 ≡ row W o ws j
unfolding row
row_bit W o ws j = bit_at_bit W ws (mirror W o j)

-- index i of word k
pub row_at : (W : ℕ) (o : Order) (ws : List ℕ) (k i : ℕ) → i < W → row W o ws (k * W + i) ≡ bit_n (get_or ws k 0) (position W o i)
unfolding row
row_at W o ws k i h = ap (bit_at W ws) (mirror_at W o k i h) ∙ bit_at_at W ws k (position W o i) (position_lt W o i h)

-- document 01's words: place j is index j mod W of word j div W
pub row_is : (W : ℕ) → 0 < W → (o : Order) (ws : List ℕ) (j : ℕ) → row W o ws j ≡ bit_n (get_or ws (j / W) 0) (position W o (j % W))
row_is W pos o ws j = ap (row W o ws) (sym (div-add-mod' j W)) ∙ row_at W o ws (j / W) (j % W) (mod-lt j pos)

pub bit_row : (W : ℕ) → 0 < W → (o : Order) (ws : List ℕ) (q : ℕ) → bit_at W ws q ≡ row W o ws (mirror W o q)
unfolding row
bit_row W pos o ws q = ap (bit_at W ws) (sym (mirror_twice W pos o q))

pub length_from_row : (W : ℕ) (o : Order) (n : ℕ) (g : ℕ → ℕ) → length (from_row W o n g) ≡ n
unfolding from_row
length_from_row W o n g = length_from_bits W n (λ q. g (mirror W o q))

pub words_from_row : (W : ℕ) (o : Order) (n : ℕ) (g : ℕ → ℕ) → Words W (from_row W o n g)
unfolding from_row
words_from_row W o n g = words_from_bits W n (λ q. g (mirror W o q))

pub get_or_from_row : (W : ℕ) (o : Order) (n : ℕ) (g : ℕ → ℕ) (k : ℕ) → k < n → get_or (from_row W o n g) k 0 ≡ of_bits W (λ p. g (k * W + position W o p))
unfolding from_row
get_or_from_row W o n g k h =
    get_or_from_bits W n (λ q. g (mirror W o q)) k h
    ∙ of_bits_ext W (λ p. g (mirror W o (k * W + p))) (λ p. g (k * W + position W o p)) (λ p l. ap (λ (x : ℕ). g x % 2) (mirror_at W o k p l))

module _ (W : ℕ) (pos : 0 < W) (o : Order) where
  pub row_from_row : (n : ℕ) (g : ℕ → ℕ) (j : ℕ) → j < n * W → row W o (from_row W o n g) j ≡ g j % 2
  unfolding row from_row
  row_from_row n g j h =
      bit_from_bits W pos n (λ q. g (mirror W o q)) (mirror W o j) (mirror_lt W pos o n j h) ∙ ap (λ (x : ℕ). g x % 2) (mirror_twice W pos o j)

  -- the words are determined by the row
  pub is_from_row : (n : ℕ) (g : ℕ → ℕ) (ws : List ℕ) → length ws ≡ n → Words W ws → ((j : ℕ) → j < n * W → row W o ws j ≡ g j % 2) → ws ≡ from_row W o n g
  unfolding from_row
  is_from_row n g ws len words same =
      is_from_bits W n (λ q. g (mirror W o q)) ws len words (λ q h. bit_row W pos o ws q ∙ same (mirror W o q) (mirror_lt W pos o n q h))

  pub from_row_ext : (n : ℕ) (f g : ℕ → ℕ) → ((j : ℕ) → j < n * W → f j % 2 ≡ g j % 2) → from_row W o n f ≡ from_row W o n g
  from_row_ext n f g same = is_from_row n g (from_row W o n f) (length_from_row W o n f) (words_from_row W o n f) (λ j h. row_from_row n f j h ∙ same j h)

  pub from_row_row : (ws : List ℕ) → Words W ws → from_row W o (length ws) (row W o ws) ≡ ws
  from_row_row ws words = sym (is_from_row (length ws) (row W o ws) ws refl words (λ j h. sym (row_bit W o ws j)))

  -- a list given word by word
  pub from_row_words : (n : ℕ) (g : ℕ → ℕ) (l : List ℕ) → length l ≡ n → ((k : ℕ) → k < n → get_or l k 0 ≡ of_bits W (λ p. g (k * W + position W o p))) → l ≡ from_row W o n g
  from_row_words n g l e h =
      ext_get_or 0 l (from_row W o n g) (e ∙ sym (length_from_row W o n g))
      (λ k m. h k (rw e at m) ∙ sym (get_or_from_row W o n g k (rw e at m)))
