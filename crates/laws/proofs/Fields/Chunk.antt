-- A piece of a number put anew by a mask, and several words as one number of N bits. With le for Lsb0 and be for Msb0 what a bit weighs does not
-- depend on where the words end: the pieces of such a number are the fields in it, and the number with a piece put anew, stored, is the field
-- stored. So a field may be read and written through words of N bits in place of W. Assumes nothing.
use mathlib.Core.Path.{◌≡◌, sym, ap, ◌∙◌, refl, ap₂}
use mathlib.Core.Logic.{◌⊎◌, inl, inr}
use mathlib.Core.List.{List}
use Prim.Native.Nat.{ℕ, ◌+◌, ◌-◌, ◌*◌, ◌%◌, ◌^◌, ◌≤◌, ◌<◌, min, max, ◌/◌}
use native.Mathlib.Nat.{mod-lt, lt_of_lt_of_le, add_assoc, add-zero}
use native.Mathlib.Omega.{arith}
use lib.ListN.{length, get_or, set}
use lib.Pow.{pow_pos, ones_lt, shl_lt, pow_mono}
use lib.Bits.{bit_and, bit_or, and_lt, or_lt}
use native.Mathlib.Decide.{dec_lt}
use Rattle.laws.specs.Types.{Order, Lsb0, Msb0, Significance, Le, Be}
use Rattle.rules.specs.Bits.{bit_n}
use Rattle.rules.specs.Positions.{position, row, spliced}
use Rattle.rules.specs.Fields.{exponent, store_of, load_of}
use Rattle.rules.proofs.Bits.Bit.{bit_lt, bit_bit, bit_and_lem, bit_or_lem, bit_not, not_lt, bit_mask, bit_mask_below, bit_mask_above, bit_mod, bit_shl, bit_shl_low, bit_small, bit_shr}
use Rattle.rules.proofs.Rows.Row.{Words, position_lt}
use Rattle.rules.proofs.Fields.Field.{lowest, exponent_one, exponent_renumbers, load_is, load_bit}
use Rattle.laws.proofs.Rows.Word.{set_is_spliced}
use Rattle.rules.proofs.Rows.Splice.{is_spliced_parts, spliced_inside, spliced_before, spliced_past}
use Rattle.laws.proofs.Fields.Cuts.{piece_of, joined, first_of_value, rest_of_value, load_after, store_after, words_store, length_store}

-- the significance that goes with an order
unfoldable pub own : Order → Significance
own Lsb0 = Le
own Msb0 = Be

-- ---- a field within one word, stored by a mask

-- the word x with the low n bits of v in place of its n bits from the position p on
unfoldable pub masked : ℕ → ℕ → ℕ → ℕ → ℕ → ℕ
masked W x p n v = bit_or (bit_and x (2 ^ W - 1 - (2 ^ n - 1) * 2 ^ p)) (v % 2 ^ n * 2 ^ p)

module _ (W p n : ℕ) (fits : p + n ≤ W) (x v : ℕ) (hx : x < 2 ^ W) where
  reach : (a : ℕ) → a < 2 ^ n → a * 2 ^ p < 2 ^ W
  reach a h = lt_of_lt_of_le (shl_lt n p h) (pow_mono (omega arith))

  pub masked_lt : masked W x p n v < 2 ^ W
  unfolding masked
  masked_lt =
      or_lt W (bit_and x (2 ^ W - 1 - (2 ^ n - 1) * 2 ^ p)) (v % 2 ^ n * 2 ^ p)
      (and_lt W x (2 ^ W - 1 - (2 ^ n - 1) * 2 ^ p) hx (not_lt W ((2 ^ n - 1) * 2 ^ p)))
      (reach (v % 2 ^ n) (mod-lt v (pow_pos n)))

  masked_bit : (j : ℕ) → j < W → bit_n (masked W x p n v) j ≡ max (min (bit_n x j) (1 - bit_n ((2 ^ n - 1) * 2 ^ p) j)) (bit_n (v % 2 ^ n * 2 ^ p) j)
  unfolding masked
  masked_bit j h =
      bit_or_lem (bit_and x (2 ^ W - 1 - (2 ^ n - 1) * 2 ^ p)) (v % 2 ^ n * 2 ^ p) j
      ∙ ap (λ (y : ℕ). max y (bit_n (v % 2 ^ n * 2 ^ p) j))
      (bit_and_lem x (2 ^ W - 1 - (2 ^ n - 1) * 2 ^ p) j ∙ ap (min (bit_n x j)) (bit_not W ((2 ^ n - 1) * 2 ^ p) j (reach (2 ^ n - 1) (ones_lt n)) h))

  pub masked_in : (i : ℕ) → i < n → bit_n (masked W x p n v) (p + i) ≡ bit_n v i
  masked_in i h =
      masked_bit (p + i) (omega arith)
      ∙ rw (bit_mask n p (p + i) (omega arith) (omega arith), bit_shl (v % 2 ^ n) p i, bit_mod v n i h) (omega arith)

  pub masked_below : (j : ℕ) → j < p → bit_n (masked W x p n v) j ≡ bit_n x j
  masked_below j h =
      masked_bit j (omega arith) ∙ rw (bit_mask_below n p j h, bit_shl_low (v % 2 ^ n) p j h) (omega (arith, bit_lt x j))

  pub masked_above : (j : ℕ) → p + n ≤ j → j < W → bit_n (masked W x p n v) j ≡ bit_n x j
  masked_above j h l =
      masked_bit j l
      ∙ rw (bit_mask_above n p j h, bit_small (v % 2 ^ n * 2 ^ p) (n + p) j (shl_lt n p (mod-lt v (pow_pos n))) (omega arith)) (omega (arith, bit_lt x j))

-- where the n bits of a word from index h on lie, by positions
pub lowest_fits : (W : ℕ) (o : Order) (h n : ℕ) → h + n ≤ W → lowest W o h n + n ≤ W
unfolding lowest
lowest_fits W Lsb0 h n fits = fits
lowest_fits W Msb0 h n fits = omega arith

pub beside : (W : ℕ) (o : Order) (h n i : ℕ) → h + n ≤ W → i < W → (i < h) ⊎ (h + n ≤ i)
    → (position W o i < lowest W o h n) ⊎ (lowest W o h n + n ≤ position W o i)
unfolding lowest position
beside W Lsb0 h n i fits l s = s
beside W Msb0 h n i fits l (inl s) = inr (omega arith)
beside W Msb0 h n i fits l (inr s) = inl (omega arith)

-- what is put by a mask leaves every index beside it
pub masked_beside : (W : ℕ) (o : Order) (h n : ℕ) → h + n ≤ W → (x v : ℕ) → x < 2 ^ W → (i : ℕ) → i < W → (i < h) ⊎ (h + n ≤ i)
    → bit_n (masked W x (lowest W o h n) n v) (position W o i) ≡ bit_n x (position W o i)
masked_beside W o h n fits x v small i l s = go (beside W o h n i fits l s)
  where
    go : (position W o i < lowest W o h n) ⊎ (lowest W o h n + n ≤ position W o i) → bit_n (masked W x (lowest W o h n) n v) (position W o i) ≡ bit_n x (position W o i)
    go (inl m) = masked_below W (lowest W o h n) n (lowest_fits W o h n fits) x v small (position W o i) m
    go (inr m) = masked_above W (lowest W o h n) n (lowest_fits W o h n fits) x v small (position W o i) m (position_lt W o i l)

-- so the word stored by a mask is the field stored
module _ (W : ℕ) (pos : 0 < W) (o : Order) (g : Significance) (ws : List ℕ) (k : ℕ) (in_list : k < length ws) (words : Words W ws) (h n : ℕ) (fits : h + n ≤ W) (v : ℕ) where
  stored : ℕ
  stored = masked W (get_or ws k 0) (lowest W o h n) n v

  pub store_one : set ws k (masked W (get_or ws k 0) (lowest W o h n) n v) ≡ store_of W o g ws (k * W + h) n v
  unfolding store_of stored
  store_one =
      set_is_spliced W pos o ws k in_list stored (masked_lt W (lowest W o h n) n (lowest_fits W o h n fits) (get_or ws k 0) v (words k)) words h n fits
      (λ i. bit_n v (exponent W o g (k * W + h) n i))
      (λ i m. ap (bit_n stored) (sym (exponent_one W pos k h n fits o g i m))
      ∙ masked_in W (lowest W o h n) n (lowest_fits W o h n fits) (get_or ws k 0) v (words k)
      (exponent W o g (k * W + h) n i) ((exponent_renumbers W pos (k * W + h) n o g).below i m) ∙ sym (bit_bit v (exponent W o g (k * W + h) n i)))
      (λ i m. masked_beside W o h n fits (get_or ws k 0) v (words k) i (omega arith) (inl m))
      (λ i m l. masked_beside W o h n fits (get_or ws k 0) v (words k) i l (inr m))

-- how many bits are read and written at once where that pays
abbrev pub chunk : ℕ
chunk = 64

-- bit i weighs by its position in a word of N bits
own_position : (W : ℕ) (o : Order) (at N i : ℕ) → exponent W o (own o) at N i ≡ position N o i
unfolding own exponent position
own_position W Lsb0 at N i = refl
own_position W Msb0 at N i = refl

-- so it weighs in a piece what it weighs in the whole, less the lowest position
own_inner : (N : ℕ) (o : Order) (h n i : ℕ) → h + n ≤ N → i < n → lowest N o h n + position n o i ≡ position N o (h + i)
unfolding lowest position
own_inner N Lsb0 h n i fits l = refl
own_inner N Msb0 h n i fits l = omega arith

module _ (W : ℕ) (pos : 0 < W) (o : Order) (ws : List ℕ) (k N : ℕ) {x : ℕ} (is : x ≡ load_of W o (own o) ws (k * W) N) where
  -- bit i of the number
  at_bit : (i : ℕ) → i < N → bit_n x (position N o i) ≡ row W o ws (k * W + i)
  at_bit i h =
      ap₂ bit_n is (sym (own_position W o (k * W) N i)) ∙ load_bit W pos o (own o) ws (k * W) N i h

  pub chunk_piece : (h n : ℕ) → h + n ≤ N → piece_of N x o h n ≡ load_of W o (own o) ws (k * W + h) n
  unfolding piece_of
  chunk_piece h n fits =
      load_is W pos o (own o) ws (k * W + h) n (x / 2 ^ lowest N o h n % 2 ^ n) (mod-lt (x / 2 ^ lowest N o h n) (pow_pos n)) bit
    where
      bit : (i : ℕ) → i < n → bit_n (x / 2 ^ lowest N o h n % 2 ^ n) (exponent W o (own o) (k * W + h) n i) ≡ row W o ws (k * W + h + i)
      bit i l =
          ap (bit_n (x / 2 ^ lowest N o h n % 2 ^ n)) (own_position W o (k * W + h) n i)
          ∙ bit_mod (x / 2 ^ lowest N o h n) n (position n o i) (position_lt n o i l)
          ∙ bit_shr x (lowest N o h n) (position n o i)
          ∙ ap (bit_n x) (own_inner N o h n i fits l)
          ∙ at_bit (h + i) (omega arith)
          ∙ ap (row W o ws) (sym (add_assoc (k * W) h i))

  -- the N bits end with word k + c, and m bits of the next word follow
  module _ (c h n m : ℕ) (whole : N ≡ c * W) (edge : h + n ≡ N) where
    pub chunk_two : m ≤ W → {a b : ℕ} → a ≡ piece_of N x o h n → b ≡ load_of W o (own o) ws ((k + c) * W + 0) m
        → joined (own o) a n b m ≡ load_of W o (own o) ws (k * W + h) (n + m)
    chunk_two l p q =
        load_after W pos o (own o) ws k h n m c (edge ∙ whole) (p ∙ chunk_piece h n (omega arith)) (q ∙ ap (λ (y : ℕ). load_of W o (own o) ws y m) (add-zero ((k + c) * W)))

  -- the number with a piece put anew, stored
  module _ (h n : ℕ) (fits : h + n ≤ N) (small : x < 2 ^ N) (v : ℕ) (room : k * W + N ≤ length ws * W) where
    z : ℕ
    z = masked N x (lowest N o h n) n v

    b : ℕ → ℕ
    b i = bit_n z (exponent W o (own o) (k * W) N i)

    -- a place in the N bits, but outside the piece
    kept : (i : ℕ) → i < N → (i < h) ⊎ (h + n ≤ i) → row W o (spliced W o ws (k * W) N b) (k * W + i) ≡ row W o ws (k * W + i)
    unfolding z b
    kept i l s =
        spliced_inside W pos o ws (k * W) N b room i l ∙ bit_bit z (exponent W o (own o) (k * W) N i)
        ∙ ap (bit_n z) (own_position W o (k * W) N i) ∙ masked_beside N o h n fits x v small i l s ∙ at_bit i l

    pub chunk_stored : store_of W o (own o) ws (k * W) N (masked N x (lowest N o h n) n v) ≡ store_of W o (own o) ws (k * W + h) n v
    unfolding store_of z b
    chunk_stored =
        is_spliced_parts W pos o ws (k * W + h) n (λ i. bit_n v (exponent W o (own o) (k * W + h) n i)) new
        (length_store W o (own o) ws (k * W) N z) (words_store W o (own o) ws (k * W) N z)
        (λ i l. ap (row W o new) (add_assoc (k * W) h i) ∙ spliced_inside W pos o ws (k * W) N b room (h + i) (omega arith)
        ∙ bit_bit z (exponent W o (own o) (k * W) N (h + i)) ∙ ap (bit_n z) (own_position W o (k * W) N (h + i) ∙ sym (own_inner N o h n i fits l))
        ∙ masked_in N (lowest N o h n) n (lowest_fits N o h n fits) x v small (position n o i) (position_lt n o i l)
        ∙ ap (bit_n v) (sym (own_position W o (k * W + h) n i)) ∙ sym (bit_bit v (exponent W o (own o) (k * W + h) n i)))
        (λ j l. before j l (dec_lt j (k * W)))
        (λ j l q. past j l q (dec_lt j (k * W + N)))
      where
        new : List ℕ
        new = spliced W o ws (k * W) N b

        before : (j : ℕ) → j < k * W + h → Dec (j < k * W) → row W o new j ≡ row W o ws j
        before j l (yes m) = spliced_before W pos o ws (k * W) N b room j m
        before j l (no m) =
            let e : k * W + (j - k * W) ≡ j = omega arith in
            rw e at (kept (j - k * W) (omega arith) (inl (omega arith)))

        past : (j : ℕ) → k * W + h + n ≤ j → j < length ws * W → Dec (j < k * W + N) → row W o new j ≡ row W o ws j
        past j l q (yes m) =
            let e : k * W + (j - k * W) ≡ j = omega arith in
            rw e at (kept (j - k * W) (omega arith) (inr (omega arith)))
        past j l q (no m) = spliced_past W pos o ws (k * W) N b room j (omega arith) q

-- a field stored in two: in the number of N bits, and in the word after it
pub chunk_rest : (W : ℕ) → 0 < W → (o : Order) (ws : List ℕ) (k h n m c N : ℕ) → N ≡ c * W → h + n ≡ N → (v : ℕ) {xs ys : List ℕ}
    → xs ≡ store_of W o (own o) ws (k * W + h) n (first_of_value (own o) v m) → ys ≡ store_of W o (own o) xs ((k + c) * W + 0) m (rest_of_value (own o) v n)
    → ys ≡ store_of W o (own o) ws (k * W + h) (n + m) v
chunk_rest W pos o ws k h n m c N whole edge v {xs} p q =
    store_after W pos o (own o) ws k h n m c (edge ∙ whole) v p (q ∙ ap (λ (y : ℕ). store_of W o (own o) xs y m (rest_of_value (own o) v n)) (add-zero ((k + c) * W)))
