-- The laws of a splice: what it holds, that nothing else does, and how splices follow on one another. What is written is taken modulo 2, so
-- none asks that it be bits. Assumes nothing.
use mathlib.Core.Path.{◌≡◌, refl, sym, ap, ◌∙◌}
use mathlib.Core.List.{List, [], ◌∷◌}
use mathlib.Core.Bool.{Bool, true, false, cond, and-false}
use Prim.Native.Nat.{ℕ, ◌+◌, ◌-◌, ◌*◌, ◌%◌, ◌≤◌, ◌<◌}
use native.Mathlib.Nat.{mod-mod}
use native.Mathlib.Decide.{dec_lt}
use native.Mathlib.Omega.{arith}
use lib.Dec.{leb}
use lib.ListN.{length}
use borrow.Author.Tests.{le-leb, lt-leb, lt-ltb, le-ltb}
use Rattle.rules.specs.Types.{Order, Lsb0, Msb0}
use Rattle.rules.specs.Positions.{row, within, over, spliced, position, mirror, from_row}
use Rattle.rules.proofs.Rows.Row.{Words, row_bit, row_from_row, length_from_row, words_from_row, is_from_row, from_row_ext, from_row_row}
use Rattle.rules.specs.Bits.{bit_n, of_bits, tabulate, bit_at, from_bits}

-- the splice of three ones: no bit before it, none after it
spliced_ones : spliced 8 Lsb0 (0 ∷ 0 ∷ []) 6 3 (λ _. 1) ∷ spliced 8 Msb0 (0 ∷ 0 ∷ []) 6 3 (λ _. 1) ∷ [] ≡ (0xC0 ∷ 0x01 ∷ []) ∷ (0x03 ∷ 0x80 ∷ []) ∷ []
unfolding spliced from_row from_bits tabulate of_bits over within row mirror position bit_at bit_n
spliced_ones = refl

-- ---- a row with a part put into it

-- where a place lies to a part: before it, at its place i, or past it
pub data At (at n j : ℕ) : Type 0 where
  before : j < at → At at n j
  inside : (i : ℕ) → i < n → at + i ≡ j → At at n j
  past : at + n ≤ j → At at n j

pub side : (at n j : ℕ) → At at n j
side at n j = go (dec_lt j at) (dec_lt j (at + n))
  where
    go : Dec (j < at) → Dec (j < at + n) → At at n j
    go (yes l) (yes m) = before l
    go (yes l) (no m) = before l
    go (no l) (yes m) = inside (j - at) (omega arith) (omega arith)
    go (no l) (no m) = past (omega arith)

pub over_before : (at n : ℕ) (b g : ℕ → ℕ) (j : ℕ) → j < at → over at n b g j ≡ g j
unfolding over within
over_before at n b g j h = rw (lt-leb at j h)

pub over_past : (at n : ℕ) (b g : ℕ → ℕ) (j : ℕ) → at + n ≤ j → over at n b g j ≡ g j
unfolding over within
over_past at n b g j h = rw (le-ltb j (at + n) h, and-false (leb at j))

pub over_inside : (at n : ℕ) (b g : ℕ → ℕ) (i : ℕ) → i < n → over at n b g (at + i) ≡ b i
unfolding over within
over_inside at n b g i h =
    let e : at + i - at ≡ i = omega arith in
    rw (le-leb at (at + i) (omega arith), lt-ltb (at + i) (at + n) (omega arith), e)

pub over_at : (at n : ℕ) (b g h : ℕ → ℕ) (j : ℕ) → g j % 2 ≡ h j % 2 → over at n b g j % 2 ≡ over at n b h j % 2
unfolding over
over_at at n b g h j e = go (within at n j)
  where
    go : (t : Bool) → cond t (b (j - at)) (g j) % 2 ≡ cond t (b (j - at)) (h j) % 2
    go true = refl
    go false = e

-- neighbours make one, the lower put in first
pub over_up : (s k n : ℕ) (b g : ℕ → ℕ) (j : ℕ) → over (s + k) n (λ i. b (k + i)) (over s k b g) j ≡ over s (k + n) b g j
over_up s k n b g j = go (side s k j) (side (s + k) n j)
  where
    c : ℕ → ℕ
    c i = b (k + i)

    go : At s k j → At (s + k) n j → over (s + k) n c (over s k b g) j ≡ over s (k + n) b g j
    go (before l) y = over_before (s + k) n c (over s k b g) j (omega arith) ∙ over_before s k b g j l ∙ sym (over_before s (k + n) b g j l)
    go (inside i l p) y =
        rw (← p)
        (over_before (s + k) n c (over s k b g) (s + i) (omega arith) ∙ over_inside s k b g i l ∙ sym (over_inside s (k + n) b g i (omega arith)))
    go (past l) (before m) = absurd (omega arith)
    go (past l) (inside i m p) =
        let q : s + k + i ≡ s + (k + i) = omega arith in
        rw (← p) (over_inside (s + k) n c (over s k b g) i m ∙ sym (over_inside s (k + n) b g (k + i) (omega arith)) ∙ ap (over s (k + n) b g) (sym q))
    go (past l) (past m) = over_past (s + k) n c (over s k b g) j m ∙ over_past s k b g j l ∙ sym (over_past s (k + n) b g j (omega arith))

-- the two parts have no place in common: either may be put in first
pub over_swap : (s k t n : ℕ) (b c g : ℕ → ℕ) → s + k ≤ t → (j : ℕ) → over t n c (over s k b g) j ≡ over s k b (over t n c g) j
over_swap s k t n b c g apart j = go (side s k j) (side t n j)
  where
    go : At s k j → At t n j → over t n c (over s k b g) j ≡ over s k b (over t n c g) j
    go (before l) y = over_before t n c (over s k b g) j (omega arith) ∙ over_before s k b g j l ∙ sym (over_before s k b (over t n c g) j l ∙ over_before t n c g j (omega arith))
    go (inside i l p) y = rw (← p) (over_before t n c (over s k b g) (s + i) (omega arith) ∙ over_inside s k b g i l ∙ sym (over_inside s k b (over t n c g) i l))
    go (past l) (before m) = over_before t n c (over s k b g) j m ∙ over_past s k b g j l ∙ sym (over_past s k b (over t n c g) j l ∙ over_before t n c g j m)
    go (past l) (inside i m p) =
        rw (← p) (over_inside t n c (over s k b g) i m ∙ sym (over_past s k b (over t n c g) (t + i) (omega arith) ∙ over_inside t n c g i m))
    go (past l) (past m) = over_past t n c (over s k b g) j m ∙ over_past s k b g j l ∙ sym (over_past s k b (over t n c g) j l ∙ over_past t n c g j m)

-- the same bits, modulo 2
pub over_ext : (s n : ℕ) (b c g : ℕ → ℕ) → ((i : ℕ) → i < n → b i % 2 ≡ c i % 2) → (j : ℕ) → over s n b g j % 2 ≡ over s n c g j % 2
over_ext s n b c g same j = go (side s n j)
  where
    go : At s n j → over s n b g j % 2 ≡ over s n c g j % 2
    go (before l) = ap (λ (x : ℕ). x % 2) (over_before s n b g j l ∙ sym (over_before s n c g j l))
    go (inside i l p) = rw (← p) (ap (λ (x : ℕ). x % 2) (over_inside s n b g i l) ∙ same i l ∙ ap (λ (x : ℕ). x % 2) (sym (over_inside s n c g i l)))
    go (past l) = ap (λ (x : ℕ). x % 2) (over_past s n b g j l ∙ sym (over_past s n c g j l))

-- bits that stand there already
pub over_same : (s n : ℕ) (b g : ℕ → ℕ) → ((i : ℕ) → i < n → b i % 2 ≡ g (s + i) % 2) → (j : ℕ) → over s n b g j % 2 ≡ g j % 2
over_same s n b g same j = go (side s n j)
  where
    go : At s n j → over s n b g j % 2 ≡ g j % 2
    go (before l) = ap (λ (x : ℕ). x % 2) (over_before s n b g j l)
    go (inside i l p) = rw (← p) (ap (λ (x : ℕ). x % 2) (over_inside s n b g i l) ∙ same i l)
    go (past l) = ap (λ (x : ℕ). x % 2) (over_past s n b g j l)

-- ---- one splice

pub length_spliced : (W : ℕ) (o : Order) (ws : List ℕ) (at n : ℕ) (b : ℕ → ℕ) → length (spliced W o ws at n b) ≡ length ws
unfolding spliced
length_spliced W o ws at n b = length_from_row W o (length ws) (over at n b (row W o ws))

pub words_spliced : (W : ℕ) (o : Order) (ws : List ℕ) (at n : ℕ) (b : ℕ → ℕ) → Words W (spliced W o ws at n b)
unfolding spliced
words_spliced W o ws at n b = words_from_row W o (length ws) (over at n b (row W o ws))

module _ (W : ℕ) (pos : 0 < W) (o : Order) (ws : List ℕ) (at n : ℕ) (b : ℕ → ℕ) where
  pub row_spliced : (j : ℕ) → j < length ws * W → row W o (spliced W o ws at n b) j ≡ over at n b (row W o ws) j % 2
  unfolding spliced
  row_spliced = row_from_row W pos o (length ws) (over at n b (row W o ws))

  -- a list with the right length, words and row is the splice
  pub is_spliced : (vs : List ℕ) → length vs ≡ length ws → Words W vs
      → ((j : ℕ) → j < length ws * W → row W o vs j ≡ over at n b (row W o ws) j % 2) → vs ≡ spliced W o ws at n b
  unfolding spliced
  is_spliced = is_from_row W pos o (length ws) (over at n b (row W o ws))

  -- the same, told by the part and by the rest
  pub is_spliced_parts : (vs : List ℕ) → length vs ≡ length ws → Words W vs
      → ((i : ℕ) → i < n → row W o vs (at + i) ≡ b i % 2)
      → ((j : ℕ) → j < at → row W o vs j ≡ row W o ws j)
      → ((j : ℕ) → at + n ≤ j → j < length ws * W → row W o vs j ≡ row W o ws j)
      → vs ≡ spliced W o ws at n b
  is_spliced_parts vs e words ins bef pas = is_spliced vs e words (λ j h. go j h (side at n j))
    where
      go : (j : ℕ) → j < length ws * W → At at n j → row W o vs j ≡ over at n b (row W o ws) j % 2
      go j h (before l) = bef j l ∙ sym (row_bit W o ws j) ∙ ap (λ (x : ℕ). x % 2) (sym (over_before at n b (row W o ws) j l))
      go j h (past l) = pas j l h ∙ sym (row_bit W o ws j) ∙ ap (λ (x : ℕ). x % 2) (sym (over_past at n b (row W o ws) j l))
      go j h (inside i l p) = rw (← p) (ins i l ∙ ap (λ (x : ℕ). x % 2) (sym (over_inside at n b (row W o ws) i l)))

  module _ (fits : at + n ≤ length ws * W) where
    pub spliced_inside : (i : ℕ) → i < n → row W o (spliced W o ws at n b) (at + i) ≡ b i % 2
    spliced_inside i h = row_spliced (at + i) (omega arith) ∙ ap (λ (x : ℕ). x % 2) (over_inside at n b (row W o ws) i h)

    pub spliced_before : (j : ℕ) → j < at → row W o (spliced W o ws at n b) j ≡ row W o ws j
    spliced_before j h = row_spliced j (omega arith) ∙ ap (λ (x : ℕ). x % 2) (over_before at n b (row W o ws) j h) ∙ row_bit W o ws j

    pub spliced_past : (j : ℕ) → at + n ≤ j → j < length ws * W → row W o (spliced W o ws at n b) j ≡ row W o ws j
    spliced_past j l h = row_spliced j h ∙ ap (λ (x : ℕ). x % 2) (over_past at n b (row W o ws) j l) ∙ row_bit W o ws j

-- ---- several splices

module _ (W : ℕ) (pos : 0 < W) (o : Order) (ws : List ℕ) where
  -- two splices, by the row
  pub row_spliced_twice : (s k : ℕ) (b : ℕ → ℕ) (t n : ℕ) (c : ℕ → ℕ) (j : ℕ) → j < length ws * W
      → row W o (spliced W o (spliced W o ws s k b) t n c) j ≡ over t n c (over s k b (row W o ws)) j % 2
  row_spliced_twice s k b t n c j h =
      row_spliced W pos o (spliced W o ws s k b) t n c j (rw (length_spliced W o ws s k b) h)
      ∙ over_at t n c (row W o (spliced W o ws s k b)) (over s k b (row W o ws)) j
      (ap (λ (x : ℕ). x % 2) (row_spliced W pos o ws s k b j h) ∙ mod-mod (over s k b (row W o ws) j) 2)

  -- so two splices are a third when they put the same bits in
  pub twice_is : (s k : ℕ) (b : ℕ → ℕ) (t n : ℕ) (c : ℕ → ℕ) (u m : ℕ) (d : ℕ → ℕ)
      → ((j : ℕ) → over t n c (over s k b (row W o ws)) j ≡ over u m d (row W o ws) j)
      → spliced W o (spliced W o ws s k b) t n c ≡ spliced W o ws u m d
  twice_is s k b t n c u m d same =
      is_spliced W pos o ws u m d (spliced W o (spliced W o ws s k b) t n c)
      (length_spliced W o (spliced W o ws s k b) t n c ∙ length_spliced W o ws s k b)
      (words_spliced W o (spliced W o ws s k b) t n c)
      (λ j h. row_spliced_twice s k b t n c j h ∙ ap (λ (x : ℕ). x % 2) (same j))

  pub splice_up : (s k n : ℕ) (b : ℕ → ℕ) → spliced W o (spliced W o ws s k b) (s + k) n (λ i. b (k + i)) ≡ spliced W o ws s (k + n) b
  splice_up s k n b = twice_is s k b (s + k) n (λ i. b (k + i)) s (k + n) b (over_up s k n b (row W o ws))

  pub splice_down : (s k n : ℕ) (b : ℕ → ℕ) → spliced W o (spliced W o ws (s + k) n (λ i. b (k + i))) s k b ≡ spliced W o ws s (k + n) b
  splice_down s k n b =
      twice_is (s + k) n (λ i. b (k + i)) s k b s (k + n) b
      (λ j. sym (over_swap s k (s + k) n b (λ i. b (k + i)) (row W o ws) (omega arith) j) ∙ over_up s k n b (row W o ws) j)

  -- a splice is determined by the bits that it places
  pub splice_ext : (s n : ℕ) (b c : ℕ → ℕ) → ((i : ℕ) → i < n → b i % 2 ≡ c i % 2) → spliced W o ws s n b ≡ spliced W o ws s n c
  unfolding spliced
  splice_ext s n b c same =
      from_row_ext W pos o (length ws) (over s n b (row W o ws)) (over s n c (row W o ws)) (λ j h. over_ext s n b c (row W o ws) same j)

  -- the same, where the bits are one
  pub splice_eq : (s n : ℕ) (b c : ℕ → ℕ) → ((i : ℕ) → i < n → b i ≡ c i) → spliced W o ws s n b ≡ spliced W o ws s n c
  splice_eq s n b c same = splice_ext s n b c (λ i l. ap (λ (x : ℕ). x % 2) (same i l))

  -- a splice of bits that stand there already, and of none, is the buffer
  pub splice_same : (s n : ℕ) (b : ℕ → ℕ) → Words W ws → ((i : ℕ) → i < n → b i % 2 ≡ row W o ws (s + i)) → spliced W o ws s n b ≡ ws
  unfolding spliced
  splice_same s n b words same =
      from_row_ext W pos o (length ws) (over s n b (row W o ws)) (row W o ws)
      (λ j h. over_same s n b (row W o ws) (λ i l. same i l ∙ sym (row_bit W o ws (s + i))) j)
      ∙ from_row_row W pos o ws words

  pub splice_none : (s : ℕ) (b : ℕ → ℕ) → Words W ws → spliced W o ws s 0 b ≡ ws
  splice_none s b words = splice_same s 0 b words (λ i h. absurd (omega arith))

-- a splice grows by the n places after it
pub splice_grow : (W : ℕ) → 0 < W → (o : Order) (ws : List ℕ) (s k n : ℕ) (b c : ℕ → ℕ) → ((i : ℕ) → i < n → c i % 2 ≡ b (k + i) % 2)
    → spliced W o (spliced W o ws s k b) (s + k) n c ≡ spliced W o ws s (k + n) b
splice_grow W pos o ws s k n b c same =
    splice_ext W pos o (spliced W o ws s k b) (s + k) n c (λ i. b (k + i)) same ∙ splice_up W pos o ws s k n b
