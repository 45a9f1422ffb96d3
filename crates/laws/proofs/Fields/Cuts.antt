-- A field cut where words end: its pieces as numbers, how they are joined and taken apart by the significance of the first, and a load and a
-- store by such a cut, le and be as one statement. Assumes nothing.
use mathlib.Core.Path.{◌≡◌, refl, sym, ap, ◌∙◌, ap₂}
use mathlib.Core.List.{List}
use Prim.Native.Nat.{ℕ, ◌+◌, ◌-◌, ◌*◌, ◌/◌, ◌%◌, ◌^◌, ◌≤◌, ◌<◌}
use native.Mathlib.Nat.{mod-lt, div-one, div-add-mod', add-zero, zero-add, add-mul, one-mul}
use native.Mathlib.Omega.{arith}
use lib.ListN.{length, get_or}
use lib.Pow.{pow_pos, field, shl-shr, shr-shr}
use Rattle.laws.specs.Types.{Order, Significance, Le, Be}
use Rattle.rules.specs.Bits.{bit_n}
use Rattle.rules.specs.Fields.{exponent, load_of, store_of}
use Rattle.rules.proofs.Rows.Row.{Words}
use Rattle.rules.proofs.Rows.Splice.{words_spliced, length_spliced, splice_none}
use Rattle.rules.proofs.Fields.Field.{lowest, load_lt, load_one, load_le, load_be, store_le, store_be}

-- ---- pieces as numbers

-- the n bits of the word x from index h on, as a number
unfoldable pub piece_of : ℕ → ℕ → Order → ℕ → ℕ → ℕ
piece_of W x o h n = x / 2 ^ lowest W o h n % 2 ^ n

-- the number whose first part is the k bits a, and whose rest is the n bits b
unfoldable pub joined : Significance → ℕ → ℕ → ℕ → ℕ → ℕ
joined Le a k b n = b * 2 ^ k + a
joined Be a k b n = a * 2 ^ n + b

-- what is to be stored in a first part that n bits follow, and in a rest that k bits precede
unfoldable pub first_of_value : Significance → ℕ → ℕ → ℕ
first_of_value Le v n = v
first_of_value Be v n = v / 2 ^ n

unfoldable pub rest_of_value : Significance → ℕ → ℕ → ℕ
rest_of_value Le v k = v / 2 ^ k
rest_of_value Be v k = v

-- len bits from index head of a word on: the bits of the first word, the whole words after it, the bits of the last word
pub record Cuts (W head len first whole last : ℕ) : Type 0 where
  pub some : 1 ≤ first
  pub within : head + first ≤ W
  pub edge : first < len → head + first ≡ W
  pub all : first + whole * W + last ≡ len
  pub rest : last < W

pub cut_more : (W head len : ℕ) → head < W → W - head < len → Cuts W head len (W - head) ((len - (W - head)) / W) ((len - (W - head)) % W)
cut_more W head len h more =
    record {
      some = omega arith;
      within = omega arith;
      edge = λ l. omega arith;
      all = omega (arith, div-add-mod' (len - (W - head)) W);
      rest = mod-lt (len - (W - head)) (omega arith);
    }

-- no more than a word's bits: no whole word after the first
pub cut_two : (W head len : ℕ) → head < W → W - head < len → len ≤ W → Cuts W head len (W - head) 0 (len - (W - head))
cut_two W head len h more few =
    record { some = omega arith; within = omega arith; edge = λ l. omega arith; all = omega arith; rest = omega arith }

-- n bits from position p on, by a shift to the top and one to the bottom
pub shifted : (x p n : ℕ) → p + n ≤ 64 → x * 2 ^ (64 - p - n) % 2 ^ 64 / 2 ^ (64 - n) ≡ x / 2 ^ p % 2 ^ n
shifted x p n h =
    let u = 64 - p - n in
    let e : n + (64 - n) ≡ 64 = omega arith in
    let d : 64 - n ≡ u + p = omega arith in
    ap (λ (y : ℕ). x * 2 ^ u % 2 ^ y / 2 ^ (64 - n)) (sym e) ∙ field (x * 2 ^ u) n (64 - n)
    ∙ ap (λ (y : ℕ). x * 2 ^ u / 2 ^ y % 2 ^ n) d ∙ ap (λ (y : ℕ). y % 2 ^ n) (sym (shr-shr (x * 2 ^ u) u p))
    ∙ ap (λ (y : ℕ). y / 2 ^ p % 2 ^ n) (shl-shr x u)

pub piece_lt : (W x : ℕ) (o : Order) (h n : ℕ) → piece_of W x o h n < 2 ^ n
unfolding piece_of
piece_lt W x o h n = mod-lt (x / 2 ^ lowest W o h n) (pow_pos n)

pub first_first : (g : Significance) (v a b : ℕ) → first_of_value g (first_of_value g v a) b ≡ first_of_value g v (a + b)
unfolding first_of_value
first_first Le v a b = refl
first_first Be v a b = shr-shr v a b

pub first_all : (g : Significance) (v : ℕ) → first_of_value g v 0 ≡ v
unfolding first_of_value
first_all Le v = refl
first_all Be v = div-one v

-- ---- a load and a store by a cut

-- a field within one word
pub load_piece : (W : ℕ) → 0 < W → (o : Order) (g : Significance) (ws : List ℕ) (k h n : ℕ) → h + n ≤ W → piece_of W (get_or ws k 0) o h n ≡ load_of W o g ws (k * W + h) n
unfolding piece_of
load_piece W pos o g ws k h n fits = sym (load_one W pos k h n fits o g ws)

-- a field cut where a word ends
module _ (W : ℕ) (pos : 0 < W) (o : Order) (g : Significance) (ws : List ℕ) (at k n c : ℕ) (edge : at + k ≡ c * W) where
  pub load_cut : joined g (load_of W o g ws at k) k (load_of W o g ws (at + k) n) n ≡ load_of W o g ws at (k + n)
  unfolding joined
  load_cut = go g
    where
      go : (g : Significance) → joined g (load_of W o g ws at k) k (load_of W o g ws (at + k) n) n ≡ load_of W o g ws at (k + n)
      go Le = sym (load_le W pos at k n c edge o ws)
      go Be = sym (load_be W pos at k n c edge o ws)

  pub store_cut : (v : ℕ) → store_of W o g (store_of W o g ws at k (first_of_value g v n)) (at + k) n (rest_of_value g v k) ≡ store_of W o g ws at (k + n) v
  unfolding first_of_value rest_of_value
  store_cut v = go g
    where
      go : (g : Significance) → store_of W o g (store_of W o g ws at k (first_of_value g v n)) (at + k) n (rest_of_value g v k) ≡ store_of W o g ws at (k + n) v
      go Le = store_le W pos at k n c edge o ws v
      go Be = store_be W pos at k n c edge o ws v

-- what a store leaves is as many words, each of W bits
pub words_store : (W : ℕ) (o : Order) (g : Significance) (ws : List ℕ) (at n v : ℕ) → Words W (store_of W o g ws at n v)
unfolding store_of
words_store W o g ws at n v = words_spliced W o ws at n (λ i. bit_n v (exponent W o g at n i))

pub length_store : (W : ℕ) (o : Order) (g : Significance) (ws : List ℕ) (at n v : ℕ) → length (store_of W o g ws at n v) ≡ length ws
unfolding store_of
length_store W o g ws at n v = length_spliced W o ws at n (λ i. bit_n v (exponent W o g at n i))

-- a store of no bits
pub store_none : (W : ℕ) → 0 < W → (o : Order) (g : Significance) (ws : List ℕ) → Words W ws → (at v : ℕ) → ws ≡ store_of W o g ws at 0 v
unfolding store_of
store_none W pos o g ws words at v = sym (splice_none W pos o ws at (λ i. bit_n v (exponent W o g at 0 i)) words)

-- a number that is a load is below its power of two
pub load_fits : (W : ℕ) → 0 < W → (o : Order) (g : Significance) (ws : List ℕ) (at n : ℕ) {r : ℕ} → r ≡ load_of W o g ws at n → (r ≡ load_of W o g ws at n) × (r < 2 ^ n)
load_fits W pos o g ws at n e = (e, rw e (load_lt W pos o g ws at n))

-- n bits from index h of word k on, up to the end of the c-th word from there, and m bits after them: what code joins is the load, and what it
-- stores one after the other is the store
module _ (W : ℕ) (pos : 0 < W) (o : Order) (g : Significance) (ws : List ℕ) (k h n m c : ℕ) (edge : h + n ≡ c * W) where
  behind : k * W + h + n ≡ (k + c) * W
  behind = omega (arith, add-mul k c W)

  pub load_after : {a b : ℕ} → a ≡ load_of W o g ws (k * W + h) n → b ≡ load_of W o g ws ((k + c) * W) m → joined g a n b m ≡ load_of W o g ws (k * W + h) (n + m)
  load_after p q =
      ap₂ (λ (x y : ℕ). joined g x n y m) p (q ∙ ap (λ (y : ℕ). load_of W o g ws y m) (sym behind)) ∙ load_cut W pos o g ws (k * W + h) n m (k + c) behind

  pub store_after : (v : ℕ) {xs ys : List ℕ} → xs ≡ store_of W o g ws (k * W + h) n (first_of_value g v m) → ys ≡ store_of W o g xs ((k + c) * W) m (rest_of_value g v n)
      → ys ≡ store_of W o g ws (k * W + h) (n + m) v
  store_after v p q =
      q ∙ ap₂ (λ (us : List ℕ) (y : ℕ). store_of W o g us y m (rest_of_value g v n)) p (sym behind) ∙ store_cut W pos o g ws (k * W + h) n m (k + c) behind v

-- up to the end of the first word
module _ (W : ℕ) (pos : 0 < W) (o : Order) (g : Significance) (ws : List ℕ) (k h n m : ℕ) (edge : h + n ≡ W) where
  pub load_rest : {a b : ℕ} → a ≡ load_of W o g ws (k * W + h) n → b ≡ load_of W o g ws ((k + 1) * W) m → joined g a n b m ≡ load_of W o g ws (k * W + h) (n + m)
  load_rest = load_after W pos o g ws k h n m 1 (edge ∙ sym (one-mul W))

  pub store_rest : (v : ℕ) {xs ys : List ℕ} → xs ≡ store_of W o g ws (k * W + h) n (first_of_value g v m) → ys ≡ store_of W o g xs ((k + 1) * W) m (rest_of_value g v n)
      → ys ≡ store_of W o g ws (k * W + h) (n + m) v
  store_rest = store_after W pos o g ws k h n m 1 (edge ∙ sym (one-mul W))

-- w whole words from word s on
module _ (W : ℕ) (pos : 0 < W) (o : Order) (g : Significance) (ws : List ℕ) (s w m : ℕ) where
  from_start : (n : ℕ) → load_of W o g ws (s * W + 0) n ≡ load_of W o g ws (s * W) n
  from_start n = ap (λ (x : ℕ). load_of W o g ws x n) (add-zero (s * W))

  to_start : (n v : ℕ) → store_of W o g ws (s * W + 0) n v ≡ store_of W o g ws (s * W) n v
  to_start n v = ap (λ (x : ℕ). store_of W o g ws x n v) (add-zero (s * W))

  pub load_next : {a b : ℕ} → a ≡ load_of W o g ws (s * W) (w * W) → b ≡ load_of W o g ws ((s + w) * W) m → joined g a (w * W) b m ≡ load_of W o g ws (s * W) (w * W + m)
  load_next p q = load_after W pos o g ws s 0 (w * W) m w (zero-add (w * W)) (p ∙ sym (from_start (w * W))) q ∙ from_start (w * W + m)

  pub store_next : (v : ℕ) {xs ys : List ℕ} → xs ≡ store_of W o g ws (s * W) (w * W) (first_of_value g v m) → ys ≡ store_of W o g xs ((s + w) * W) m (rest_of_value g v (w * W))
      → ys ≡ store_of W o g ws (s * W) (w * W + m) v
  store_next v p q = store_after W pos o g ws s 0 (w * W) m w (zero-add (w * W)) v (p ∙ sym (to_start (w * W) (first_of_value g v m))) q ∙ to_start (w * W + m) v

  -- the same where the last bits are told as a piece, from index 0 on
  pub load_last : {a b : ℕ} → a ≡ load_of W o g ws (s * W) (w * W) → b ≡ load_of W o g ws ((s + w) * W + 0) m
      → joined g a (w * W) b m ≡ load_of W o g ws (s * W) (w * W + m)
  load_last p q = load_next p (q ∙ ap (λ (y : ℕ). load_of W o g ws y m) (add-zero ((s + w) * W)))

  pub store_last : (v : ℕ) {xs ys : List ℕ} → xs ≡ store_of W o g ws (s * W) (w * W) (first_of_value g v m) → ys ≡ store_of W o g xs ((s + w) * W + 0) m (rest_of_value g v (w * W))
      → ys ≡ store_of W o g ws (s * W) (w * W + m) v
  store_last v {xs} p q = store_next v p (q ∙ ap (λ (y : ℕ). store_of W o g xs y m (rest_of_value g v (w * W))) (add-zero ((s + w) * W)))
