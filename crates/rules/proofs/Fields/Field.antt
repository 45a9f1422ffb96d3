-- A field: the number that a run of bits of a row is. It is cut where words end; within a piece a bit weighs by its position in the word, and
-- with le the first piece is the least significant, with be the most significant. Assumes nothing.
use mathlib.Core.Path.{◌≡◌, refl, sym, ap, ◌∙◌}
use mathlib.Core.List.{List, [], ◌∷◌, map}
use Prim.Native.Nat.{ℕ, ◌+◌, ◌-◌, ◌*◌, ◌/◌, ◌%◌, ◌^◌, ◌≤◌, ◌<◌, min}
use native.Mathlib.Nat.{div-add-mod', mod-lt, div-eq_of_lt-le, add_assoc, add_comm, div-lt_iff_lt-mul, le-div_iff_mul-le, mul-le-mul_right}
use native.Mathlib.Omega.{arith}
use lib.ListN.{length, get_or}
use Rattle.rules.specs.Types.{Order, Lsb0, Msb0, Significance, Le, Be}
use Rattle.rules.specs.Bits.{bit_n, bit_at}
use Rattle.rules.specs.Positions.{row, position, spliced, mirror}
use Rattle.rules.specs.Fields.{piece_from, piece_upto, exponent, load_of, store_of, weigh}
use Rattle.rules.proofs.Bits.Bit.{bit_bit, bit_mod, bit_shr, bit_low, bit_high, same_low}
use native.Mathlib.Decide.{dec_lt}
use lib.Pow.{pow_pos, pow-add}
use lib.Arith.{digits_lt}
use Rattle.rules.proofs.Bits.Weigh.{weigh_ext, weigh_of_bits, weigh_weight, weigh_lt, weigh_is, Renumbers}
use Rattle.rules.proofs.Rows.Row.{Words, row_lt, row_at}
use Rattle.rules.proofs.Rows.Splice.{spliced_inside, splice_same, splice_eq, splice_up}

-- what the eight bits from index 4 of a byte on weigh, two pieces of four, in the four pairings
weights : Order → Significance → List ℕ
weights o e = map (exponent 8 o e 4 8) (0 ∷ 1 ∷ 2 ∷ 3 ∷ 4 ∷ 5 ∷ 6 ∷ 7 ∷ [])

weights_are :
    weights Lsb0 Le ∷ weights Lsb0 Be ∷ weights Msb0 Le ∷ weights Msb0 Be ∷ []
    ≡ (0 ∷ 1 ∷ 2 ∷ 3 ∷ 4 ∷ 5 ∷ 6 ∷ 7 ∷ []) ∷ (4 ∷ 5 ∷ 6 ∷ 7 ∷ 0 ∷ 1 ∷ 2 ∷ 3 ∷ []) ∷ (3 ∷ 2 ∷ 1 ∷ 0 ∷ 7 ∷ 6 ∷ 5 ∷ 4 ∷ []) ∷ (7 ∷ 6 ∷ 5 ∷ 4 ∷ 3 ∷ 2 ∷ 1 ∷ 0 ∷ []) ∷ []
unfolding weights exponent piece_from piece_upto
weights_are = refl

-- sixteen bits over three bytes
loads : load_of 8 Lsb0 Le (0xB4 ∷ 0x6C ∷ 0xF1 ∷ []) 4 16 ∷ load_of 8 Lsb0 Be (0xB4 ∷ 0x6C ∷ 0xF1 ∷ []) 4 16 ∷ [] ≡ 0x16CB ∷ 0xB6C1 ∷ []
unfolding load_of weigh exponent piece_from piece_upto row mirror position bit_at bit_n
loads = refl

-- ---- the exponents number the field's bits anew

-- the way back: the bit that weighs 2 ^ x
unfoldable pub place : ℕ → Order → Significance → ℕ → ℕ → ℕ → ℕ
place W Lsb0 Le at len x = x
place W Msb0 Be at len x = len - 1 - x
place W Msb0 Le at len x = piece_from W at x + (piece_upto W at len x - 1 - x)
place W Lsb0 Be at len x =
    piece_from W at (len - 1 - x) + (piece_upto W at len (len - 1 - x) - 1 - (len - 1 - x))

flip_flip : (n t : ℕ) → t < n → n - 1 - (n - 1 - t) ≡ t
flip_flip n t h = omega arith

module _ (W : ℕ) (pos : 0 < W) (at len : ℕ) where
  -- the word that a bit lies in, told by its bounds
  in_word : (i q : ℕ) → q * W ≤ at + i → at + i < q * W + W → (at + i) / W ≡ q
  in_word i q l h = div-eq_of_lt-le W (omega arith) (omega arith)

  module _ (i : ℕ) (h : i < len) where
    word_from_lem : (at + i) / W * W ≤ at + i
    word_from_lem = omega (arith, div-add-mod' (at + i) W)

    word_upto : at + i < (at + i) / W * W + W
    word_upto = omega (arith, div-add-mod' (at + i) W, mod-lt (at + i) pos)

    pub piece_from_lem : piece_from W at i ≤ i
    unfolding piece_from
    piece_from_lem = omega (arith, word_from_lem)

    pub piece_upto_lem : i < piece_upto W at len i
    unfolding piece_upto
    piece_upto_lem = omega (arith, word_upto)

    pub piece_len : piece_upto W at len i ≤ len
    unfolding piece_upto
    piece_len = omega arith

    -- a bit of the same piece has the same piece
    pub same_from : (k : ℕ) → piece_from W at i ≤ k → k < piece_upto W at len i → piece_from W at k ≡ piece_from W at i
    unfolding piece_from piece_upto
    same_from k l m = ap (λ (x : ℕ). x * W - at) (in_word k ((at + i) / W) (omega (arith, word_from_lem)) (omega (arith, word_upto)))

    pub same_upto : (k : ℕ) → piece_from W at i ≤ k → k < piece_upto W at len i → piece_upto W at len k ≡ piece_upto W at len i
    unfolding piece_from piece_upto
    same_upto k l m = ap (λ (x : ℕ). min len (x * W + W - at)) (in_word k ((at + i) / W) (omega (arith, word_from_lem)) (omega (arith, word_upto)))

  turn : ℕ → ℕ
  turn i = piece_from W at i + (piece_upto W at len i - 1 - i)

  turn_below : (i : ℕ) → i < len → turn i < len
  unfolding turn
  turn_below i h = omega (arith, piece_from_lem i h, piece_upto_lem i h, piece_len i h)

  -- within its piece, a bit turned twice is back
  turn_turn : (i : ℕ) → i < len → turn (turn i) ≡ i
  unfolding turn
  turn_turn i h =
      let f = piece_from_lem i h in
      let u = piece_upto_lem i h in
      let k : ℕ = piece_from W at i + (piece_upto W at len i - 1 - i) in
      omega (arith, same_from i h k (omega arith) (omega arith), same_upto i h k (omega arith) (omega arith))

  -- Lsb0 be is the turned place, counted from the field's end
  lsb_be : (i : ℕ) → i < len → len - piece_upto W at len i + (i - piece_from W at i) ≡ len - 1 - turn i
  unfolding turn
  lsb_be i h = omega (arith, piece_from_lem i h, piece_upto_lem i h, piece_len i h)

  lsb_be_below : (i : ℕ) → i < len → len - piece_upto W at len i + (i - piece_from W at i) < len
  lsb_be_below i h = rw (lsb_be i h) (omega (arith, turn_below i h))

  lsb_be_back : (i : ℕ) → i < len → turn (len - 1 - (len - piece_upto W at len i + (i - piece_from W at i))) ≡ i
  lsb_be_back i h = rw (lsb_be i h, flip_flip len (turn i) (turn_below i h)) (turn_turn i h)

  lsb_be_forth : (x : ℕ) → x < len
      → len - piece_upto W at len (turn (len - 1 - x)) + (turn (len - 1 - x) - piece_from W at (turn (len - 1 - x))) ≡ x
  lsb_be_forth x h =
      let y : len - 1 - x < len = omega arith in
      rw (lsb_be (turn (len - 1 - x)) (turn_below (len - 1 - x) y), turn_turn (len - 1 - x) y) (flip_flip len x h)

  pub exponent_renumbers : (o : Order) (g : Significance) → Renumbers len (exponent W o g at len) (place W o g at len)
  unfolding exponent place turn
  exponent_renumbers Lsb0 Le = record { below = λ i h. h; back_below = λ i h. h; back = λ i h. refl; forth = λ i h. refl }
  exponent_renumbers Msb0 Be = record { below = λ i h. omega arith; back_below = λ i h. omega arith; back = flip_flip len; forth = flip_flip len }
  exponent_renumbers Msb0 Le = record { below = turn_below; back_below = turn_below; back = turn_turn; forth = turn_turn }
  exponent_renumbers Lsb0 Be = record {
    below = lsb_be_below;
    back_below = λ x h. turn_below (len - 1 - x) (omega arith);
    back = lsb_be_back;
    forth = lsb_be_forth;
  }

-- ---- load and store

module _ (W : ℕ) (pos : 0 < W) (o : Order) (g : Significance) (ws : List ℕ) (at len : ℕ) where
  pub load_lt : load_of W o g ws at len < 2 ^ len
  unfolding load_of
  load_lt =
      weigh_lt len (exponent W o g at len) (place W o g at len) (exponent_renumbers W pos at len o g)
      (λ i. row W o ws (at + i)) (λ i. row_lt W o ws (at + i))

  -- bit i of the field is the bit of the number that it weighs
  pub load_bit : (i : ℕ) → i < len → bit_n (load_of W o g ws at len) (exponent W o g at len i) ≡ row W o ws (at + i)
  unfolding load_of
  load_bit =
      weigh_weight len (exponent W o g at len) (place W o g at len) (exponent_renumbers W pos at len o g)
      (λ i. row W o ws (at + i)) (λ i. row_lt W o ws (at + i))

  -- no other number has these bits
  pub load_is : (v : ℕ) → v < 2 ^ len → ((i : ℕ) → i < len → bit_n v (exponent W o g at len i) ≡ row W o ws (at + i)) → v ≡ load_of W o g ws at len
  unfolding load_of
  load_is v h same =
      weigh_is len (exponent W o g at len) (place W o g at len) (exponent_renumbers W pos at len o g)
      (λ i. row W o ws (at + i)) (λ i. row_lt W o ws (at + i)) v h same

  -- a load after a store gives the low len bits of the value
  pub load_store : (v : ℕ) → at + len ≤ length ws * W → load_of W o g (store_of W o g ws at len v) at len ≡ v % 2 ^ len
  unfolding load_of store_of
  load_store v fits =
      weigh_ext len (λ i. row W o (store_of W o g ws at len v) (at + i)) (λ i. bit_n v (exponent W o g at len i)) (exponent W o g at len)
      (λ i l. spliced_inside W pos o ws at len (λ i. bit_n v (exponent W o g at len i)) fits i l ∙ bit_bit v (exponent W o g at len i))
      ∙ weigh_of_bits len (exponent W o g at len) (place W o g at len) (exponent_renumbers W pos at len o g) v

  -- a store of what a load gives changes nothing
  pub store_load : Words W ws → store_of W o g ws at len (load_of W o g ws at len) ≡ ws
  unfolding store_of
  store_load words =
      splice_same W pos o ws at len (λ i. bit_n (load_of W o g ws at len) (exponent W o g at len i)) words
      (λ i l. bit_bit (load_of W o g ws at len) (exponent W o g at len i) ∙ load_bit i l)

  -- a store is determined by the low len bits
  pub store_low : (v : ℕ) → store_of W o g ws at len (v % 2 ^ len) ≡ store_of W o g ws at len v
  unfolding store_of
  store_low v =
      splice_eq W pos o ws at len (λ i. bit_n (v % 2 ^ len) (exponent W o g at len i)) (λ i. bit_n v (exponent W o g at len i))
      (λ i l. bit_mod v len (exponent W o g at len i) ((exponent_renumbers W pos at len o g).below i l))

  -- and so by the low K bits of a number, where there are K at least
  pub store_alike : (K b : ℕ) {v : ℕ} → len ≤ K → b % 2 ^ K ≡ v → store_of W o g ws at len b ≡ store_of W o g ws at len v
  store_alike K b {v} h e = sym (store_low b) ∙ ap (store_of W o g ws at len) (same_low len K b h e) ∙ store_low v

-- ---- the field by its pieces, as the document tells it

-- the lowest position of n bits of a word from index h on
unfoldable pub lowest : ℕ → Order → ℕ → ℕ → ℕ
lowest W Lsb0 h n = h
lowest W Msb0 h n = W - h - n

-- in one piece
module _ (W : ℕ) (pos : 0 < W) (k h n : ℕ) (fits : h + n ≤ W) where
  one_word : (i : ℕ) → i < n → (k * W + h + i) / W ≡ k
  one_word i l = div-eq_of_lt-le W (omega arith) (omega arith)

  one_from : (i : ℕ) → i < n → piece_from W (k * W + h) i ≡ 0
  unfolding piece_from
  one_from i l = rw (one_word i l) (omega arith)

  one_upto : (i : ℕ) → i < n → piece_upto W (k * W + h) n i ≡ n
  unfolding piece_upto
  one_upto i l = rw (one_word i l) (omega arith)

  -- what a bit weighs there is how far its position is above the lowest
  pub exponent_one : (o : Order) (g : Significance) (i : ℕ) → i < n → lowest W o h n + exponent W o g (k * W + h) n i ≡ position W o (h + i)
  unfolding exponent lowest position
  exponent_one Lsb0 Le i l = refl
  exponent_one Msb0 Be i l = omega arith
  exponent_one Msb0 Le i l = rw (one_from i l, one_upto i l) (omega arith)
  exponent_one Lsb0 Be i l = rw (one_from i l, one_upto i l) (omega arith)

  -- a field within one word, whatever the significance: its bits, from the lowest position on
  pub load_one : (o : Order) (g : Significance) (ws : List ℕ) → load_of W o g ws (k * W + h) n ≡ get_or ws k 0 / 2 ^ lowest W o h n % 2 ^ n
  load_one o g ws =
      sym (load_is W pos o g ws (k * W + h) n (get_or ws k 0 / 2 ^ lowest W o h n % 2 ^ n) (mod-lt (get_or ws k 0 / 2 ^ lowest W o h n) (pow_pos n)) bit)
    where
      e : ℕ → ℕ
      e = exponent W o g (k * W + h) n

      bit : (i : ℕ) → i < n → bit_n (get_or ws k 0 / 2 ^ lowest W o h n % 2 ^ n) (e i) ≡ row W o ws (k * W + h + i)
      bit i l =
          bit_mod (get_or ws k 0 / 2 ^ lowest W o h n) n (e i) ((exponent_renumbers W pos (k * W + h) n o g).below i l)
          ∙ bit_shr (get_or ws k 0) (lowest W o h n) (e i)
          ∙ ap (bit_n (get_or ws k 0)) (exponent_one o g i l)
          ∙ sym (row_at W o ws k (h + i) (omega arith))
          ∙ ap (row W o ws) (sym (add_assoc (k * W) h i))

joined_lt : (a b x y : ℕ) → x < 2 ^ a → y < 2 ^ b → x * 2 ^ b + y < 2 ^ (a + b)
joined_lt a b x y hx hy = rw (pow-add 2 a b) (digits_lt hx hy)

-- what holds of the first k and of the n after them holds of all
both : (k n : ℕ) (P : ℕ → Type 0) → ((i : ℕ) → i < k → P i) → ((i : ℕ) → i < n → P (k + i)) → (i : ℕ) → i < k + n → P i
both k n P f r i h = go (dec_lt i k)
  where
    go : Dec (i < k) → P i
    go (yes l) = f i l
    go (no m) = let e : k + (i - k) ≡ i = omega arith in rw e at (r (i - k) (omega arith))

-- cut where a word ends: the first k bits, up to the end of a word, and the n bits after them
module _ (W : ℕ) (pos : 0 < W) (at k n c : ℕ) (edge : at + k ≡ c * W) where
  -- a bit of the first part lies in a word before the edge, and one of the second in a word behind it
  first_word : (i : ℕ) → i < k → (at + i) / W * W + W ≤ c * W
  first_word i l =
      let q : (at + i) / W < c = (div-lt_iff_lt-mul pos).1 (omega arith) in
      omega (arith, mul-le-mul_right W q)

  rest_word : (i : ℕ) → c * W ≤ (at + (k + i)) / W * W
  rest_word i = mul-le-mul_right W ((le-div_iff_mul-le pos).1 (omega arith))

  first_upto : (i : ℕ) → i < k → piece_upto W at (k + n) i ≡ piece_upto W at k i
  unfolding piece_upto
  first_upto i l = omega (arith, first_word i l)

  rest_from : (i : ℕ) → piece_from W at (k + i) ≡ k + piece_from W (at + k) i
  unfolding piece_from
  rest_from i = rw (add_assoc at k i) (omega (arith, rest_word i))

  rest_upto : (i : ℕ) → piece_upto W at (k + n) (k + i) ≡ k + piece_upto W (at + k) n i
  unfolding piece_upto
  rest_upto i = rw (add_assoc at k i) (omega (arith, rest_word i))

  pub le_first : (o : Order) (i : ℕ) → i < k → exponent W o Le at (k + n) i ≡ exponent W o Le at k i
  unfolding exponent
  le_first Lsb0 i l = refl
  le_first Msb0 i l = rw (first_upto i l)

  pub le_rest : (o : Order) (i : ℕ) → i < n → exponent W o Le at (k + n) (k + i) ≡ k + exponent W o Le (at + k) n i
  unfolding exponent
  le_rest Lsb0 i l = refl
  le_rest Msb0 i l = rw (rest_from i, rest_upto i) (omega (arith, piece_upto_lem W pos (at + k) n i l))

  pub be_first : (o : Order) (i : ℕ) → i < k → exponent W o Be at (k + n) i ≡ n + exponent W o Be at k i
  unfolding exponent
  be_first Lsb0 i l = rw (first_upto i l) (omega (arith, piece_len W pos at k i l))
  be_first Msb0 i l = omega arith

  pub be_rest : (o : Order) (i : ℕ) → i < n → exponent W o Be at (k + n) (k + i) ≡ exponent W o Be (at + k) n i
  unfolding exponent
  be_rest Lsb0 i l = rw (rest_from i, rest_upto i) (omega arith)
  be_rest Msb0 i l = omega arith

  module _ (o : Order) (ws : List ℕ) where
    -- with le the first piece is the least significant
    pub load_le : load_of W o Le ws at (k + n) ≡ load_of W o Le ws (at + k) n * 2 ^ k + load_of W o Le ws at k
    load_le = sym (load_is W pos o Le ws at (k + n) (hi * 2 ^ k + lo) (rw (add_comm k n) (joined_lt n k hi lo hi_lt lo_lt)) bit)
      where
        hi : ℕ
        hi = load_of W o Le ws (at + k) n

        lo : ℕ
        lo = load_of W o Le ws at k

        hi_lt : hi < 2 ^ n
        hi_lt = load_lt W pos o Le ws (at + k) n

        lo_lt : lo < 2 ^ k
        lo_lt = load_lt W pos o Le ws at k

        bit : (i : ℕ) → i < k + n → bit_n (hi * 2 ^ k + lo) (exponent W o Le at (k + n) i) ≡ row W o ws (at + i)
        bit =
            both k n (λ i. bit_n (hi * 2 ^ k + lo) (exponent W o Le at (k + n) i) ≡ row W o ws (at + i))
            (λ i l. rw (le_first o i l) (bit_low hi k (exponent W o Le at k i) lo_lt ((exponent_renumbers W pos at k o Le).below i l) ∙ load_bit W pos o Le ws at k i l))
            (λ i l. rw (le_rest o i l) (bit_high hi k (exponent W o Le (at + k) n i) lo_lt ∙ load_bit W pos o Le ws (at + k) n i l ∙ ap (row W o ws) (add_assoc at k i)))

    -- with be the first piece is the most significant
    pub load_be : load_of W o Be ws at (k + n) ≡ load_of W o Be ws at k * 2 ^ n + load_of W o Be ws (at + k) n
    load_be = sym (load_is W pos o Be ws at (k + n) (hi * 2 ^ n + lo) (joined_lt k n hi lo hi_lt lo_lt) bit)
      where
        hi : ℕ
        hi = load_of W o Be ws at k

        lo : ℕ
        lo = load_of W o Be ws (at + k) n

        hi_lt : hi < 2 ^ k
        hi_lt = load_lt W pos o Be ws at k

        lo_lt : lo < 2 ^ n
        lo_lt = load_lt W pos o Be ws (at + k) n

        bit : (i : ℕ) → i < k + n → bit_n (hi * 2 ^ n + lo) (exponent W o Be at (k + n) i) ≡ row W o ws (at + i)
        bit =
            both k n (λ i. bit_n (hi * 2 ^ n + lo) (exponent W o Be at (k + n) i) ≡ row W o ws (at + i))
            (λ i l. rw (be_first o i l) (bit_high hi n (exponent W o Be at k i) lo_lt ∙ load_bit W pos o Be ws at k i l))
            (λ i l. rw (be_rest o i l) (bit_low hi n (exponent W o Be (at + k) n i) lo_lt ((exponent_renumbers W pos (at + k) n o Be).below i l)
            ∙ load_bit W pos o Be ws (at + k) n i l ∙ ap (row W o ws) (add_assoc at k i)))

    -- and so for a store: piece after piece
    joined : (g : Significance) (v a c : ℕ) → ((i : ℕ) → i < k → bit_n a (exponent W o g at k i) ≡ bit_n v (exponent W o g at (k + n) i))
        → ((i : ℕ) → i < n → bit_n c (exponent W o g (at + k) n i) ≡ bit_n v (exponent W o g at (k + n) (k + i)))
        → store_of W o g (store_of W o g ws at k a) (at + k) n c ≡ store_of W o g ws at (k + n) v
    unfolding store_of
    joined g v a c first rest =
        splice_eq W pos o (store_of W o g ws at k a) (at + k) n (λ i. bit_n c (exponent W o g (at + k) n i)) (λ i. b (k + i)) rest
        ∙ ap (λ (xs : List ℕ). spliced W o xs (at + k) n (λ i. b (k + i))) (splice_eq W pos o ws at k (λ i. bit_n a (exponent W o g at k i)) b first)
        ∙ splice_up W pos o ws at k n b
      where
        b : ℕ → ℕ
        b i = bit_n v (exponent W o g at (k + n) i)

    pub store_le : (v : ℕ) → store_of W o Le (store_of W o Le ws at k v) (at + k) n (v / 2 ^ k) ≡ store_of W o Le ws at (k + n) v
    store_le v =
        joined Le v v (v / 2 ^ k) (λ i l. ap (bit_n v) (sym (le_first o i l)))
        (λ i l. bit_shr v k (exponent W o Le (at + k) n i) ∙ ap (bit_n v) (sym (le_rest o i l)))

    pub store_be : (v : ℕ) → store_of W o Be (store_of W o Be ws at k (v / 2 ^ n)) (at + k) n v ≡ store_of W o Be ws at (k + n) v
    store_be v =
        joined Be v (v / 2 ^ n) v (λ i l. bit_shr v n (exponent W o Be at k i) ∙ ap (bit_n v) (sym (be_first o i l)))
        (λ i l. ap (bit_n v) (sym (be_rest o i l)))
