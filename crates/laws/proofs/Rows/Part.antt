-- A row worked on in parts: a first piece, whole words that are lent on and put back, and a last piece. Each is a splice of the row, and goes on
-- where the one before it stopped. Assumes nothing.
use mathlib.Core.Path.{◌≡◌, refl, sym, ap, ap₂, ◌∙◌}
use mathlib.Core.List.{List, ◌++◌}
use Prim.Native.Nat.{ℕ, ◌+◌, ◌-◌, ◌*◌, ◌/◌, ◌%◌, ◌^◌, ◌≤◌, ◌<◌}
use native.Mathlib.Nat.{div-lt_iff_lt-mul, le-div_iff_mul-le, mul-add-div_right, mul-add-mod_self_right, add-mul, add_assoc, mod-lt, div-add-mod', add-mul-mod_self_right}
use native.Mathlib.Omega.{arith}
use lib.ListN.{length, get_or, take, drop, length-drop, get_or-append}
use lib.Seq.{get_or-take, get_or-drop, get_or-append-add, length-take-le}
use borrow.Rule.Slice.PartMut.{put_mid, mid_of, post_of, same_len_mid}
use native.Mathlib.Decide.{dec_lt}
use Rattle.laws.specs.Types.{Order}
use Rattle.rules.specs.Bits.{bit_n}
use Rattle.rules.specs.Positions.{position, row, from_row, spliced}
use Rattle.rules.proofs.Rows.Row.{Words, row_is, row_from_row, length_from_row, words_from_row, row_at}
use Rattle.rules.proofs.Rows.Splice.{At, before, inside, past, side, is_spliced_parts, splice_none, splice_grow}

-- bit i of a row from place d on, where it lies in the first word
pub row_near : (W : ℕ) (o : Order) (ws : List ℕ) (d i : ℕ) → d % W + i < W → row W o ws (d + i) ≡ bit_n (get_or ws (d / W) 0) (position W o (d % W + i))
row_near W o ws d i l =
    let e : d + i ≡ d / W * W + (d % W + i) = omega (arith, div-add-mod' d W) in
    ap (row W o ws) e ∙ row_at W o ws (d / W) (d % W + i) l

-- a word's start, k words on
pub on_word : (W d r k : ℕ) → (d + r) % W ≡ 0 → (d + (r + k * W)) % W ≡ 0
on_word W d r k e = ap (λ (x : ℕ). x % W) (sym (add_assoc d r (k * W))) ∙ add-mul-mod_self_right (d + r) k W ∙ e

-- what is left after a first piece of r bits and the whole words lies within one word
pub last_fits : (W : ℕ) → 0 < W → (d r len : ℕ) → (r < len → (d + r) % W ≡ 0) → r ≤ len → (d + (r + (len - r) / W * W)) % W + (len - (r + (len - r) / W * W)) ≤ W
last_fits W pos d r len on l = go (dec_lt r len)
  where
    go : Dec (r < len) → (d + (r + (len - r) / W * W)) % W + (len - (r + (len - r) / W * W)) ≤ W
    go (yes h) =
        let e : d + (r + (len - r) / W * W) ≡ d + r + (len - r) / W * W = omega arith in
        let z : (d + (r + (len - r) / W * W)) % W ≡ 0 = ap (λ (x : ℕ). x % W) e ∙ add-mul-mod_self_right (d + r) ((len - r) / W) W ∙ on h in
        omega (arith, z, div-add-mod' (len - r) W, mod-lt (len - r) pos)
    go (no h) =
        let q : len - r ≡ 0 = omega arith in
        let z : len - (r + (len - r) / W * W) ≡ 0 = omega arith in
        omega (arith, z, mod-lt (d + (r + (len - r) / W * W)) pos)

module _ (W : ℕ) (pos : 0 < W) (o : Order) (ws : List ℕ) (d : ℕ) (b : ℕ → ℕ) where
  -- no bits
  pub none_put : (n : ℕ) → n ≡ 0 → Words W ws → ws ≡ spliced W o ws d n b
  none_put n z words = sym (ap (λ (x : ℕ). spliced W o ws d x b) z ∙ splice_none W pos o ws d b words)

  -- i bits, and the n after them
  pub grown : (i n m : ℕ) (c : ℕ → ℕ) {one two : List ℕ} → i + n ≡ m → one ≡ spliced W o ws d i b → two ≡ spliced W o one (d + i) n c
      → ((j : ℕ) → j < n → c j ≡ b (i + j)) → two ≡ spliced W o ws d m b
  grown i n m c {one} {two} e p q same =
      q ∙ ap (λ (x : List ℕ). spliced W o x (d + i) n c) p ∙ splice_grow W pos o ws d i n b c (λ j l. ap (λ (x : ℕ). x % 2) (same j l))
      ∙ ap (λ (x : ℕ). spliced W o ws d x b) e

-- ---- whole words lent on

-- word i of a part
pub part_word : (ws : List ℕ) (b m i : ℕ) → i < m → get_or (take m (drop b ws)) i 0 ≡ get_or ws (b + i) 0
part_word ws b m i l = get_or-take m (drop b ws) i 0 l ∙ get_or-drop b ws i 0

-- a part has as many words as were lent
pub mid_length : {X : Type 0} (ws : List X) (a n k : ℕ) → n ≡ k → a + k ≤ length ws → length (take n (drop a ws)) ≡ k
mid_length ws a n k e room = length-take-le n (drop a ws) (simp length-drop (omega arith)) ∙ e

get_or_past : (xs ys : List ℕ) (i n : ℕ) → length xs ≡ n → n ≤ i → get_or (xs ++ ys) i 0 ≡ get_or ys (i - n) 0
get_or_past xs ys i n e h = ap (λ (m : ℕ). get_or (xs ++ ys) m 0) (omega arith) ∙ get_or-append-add xs ys (i - n) 0

get_or_within : (xs ys : List ℕ) (i n : ℕ) → length xs ≡ n → i < n → get_or (xs ++ ys) i 0 ≡ get_or xs i 0
get_or_within xs ys i n e h = get_or-append xs ys 0 i (omega arith)

module _ (ws ys : List ℕ) (a k : ℕ) (room : a + k ≤ length ws) (e : length ys ≡ k) where
  pub put_below : (i : ℕ) → i < a → get_or (put_mid a k ws ys) i 0 ≡ get_or ws i 0
  put_below i h = get_or_within (take a ws) (ys ++ post_of a k ws) i a (length-take-le a ws (omega arith)) h ∙ get_or-take a ws i 0 h

  pub put_inside : (i : ℕ) → i < k → get_or (put_mid a k ws ys) (a + i) 0 ≡ get_or ys i 0
  put_inside i l =
      get_or_past (take a ws) (ys ++ post_of a k ws) (a + i) a (length-take-le a ws (omega arith)) (omega arith)
      ∙ get_or_within ys (post_of a k ws) (a + i - a) k e (omega arith) ∙ ap (λ (m : ℕ). get_or ys m 0) (omega arith)

  pub put_above : (i : ℕ) → a + k ≤ i → get_or (put_mid a k ws ys) i 0 ≡ get_or ws i 0
  put_above i h =
      get_or_past (take a ws) (ys ++ post_of a k ws) i a (length-take-le a ws (omega arith)) (omega arith)
      ∙ get_or_past ys (post_of a k ws) (i - a) k e (omega arith)
      ∙ get_or-drop k (drop a ws) (i - a - k) 0 ∙ get_or-drop a ws (k + (i - a - k)) 0 ∙ ap (λ (m : ℕ). get_or ws m 0) (omega arith)

  pub put_length : length (put_mid a k ws ys) ≡ length ws
  put_length = same_len_mid a k ws ys (e ∙ sym (length-take-le k (drop a ws) (simp length-drop (omega arith))))

  pub put_words : (W : ℕ) → Words W ws → Words W ys → Words W (put_mid a k ws ys)
  put_words W hw hy i = go (side a k i)
    where
      go : At a k i → get_or (put_mid a k ws ys) i 0 < 2 ^ W
      go (before h) = rw (put_below i h) (hw i)
      go (inside j h p) = rw (← p) (rw (put_inside j h) (hy j))
      go (past h) = rw (put_above i h) (hw i)

-- two places with the same index of equal words
same_bit : (W : ℕ) → 0 < W → (o : Order) (xs ys : List ℕ) (i j : ℕ) → get_or xs (i / W) 0 ≡ get_or ys (j / W) 0 → i % W ≡ j % W → row W o xs i ≡ row W o ys j
same_bit W pos o xs ys i j e f = row_is W pos o xs i ∙ ap₂ (λ (x p : ℕ). bit_n x (position W o p)) e f ∙ sym (row_is W pos o ys j)

module _ (W : ℕ) (pos : 0 < W) (o : Order) where
  -- the row of a part
  pub row_part : (ws : List ℕ) (b n j : ℕ) → j < n * W → row W o (take n (drop b ws)) j ≡ row W o ws (b * W + j)
  row_part ws b n j h =
      same_bit W pos o (take n (drop b ws)) ws j (b * W + j)
      (get_or-take n (drop b ws) (j / W) 0 ((div-lt_iff_lt-mul pos).1 h) ∙ get_or-drop b ws (j / W) 0 ∙ ap (λ (m : ℕ). get_or ws m 0) (sym (mul-add-div_right pos b j)))
      (sym (mul-add-mod_self_right b W j))

  -- k words from the a-th on, made anew with the row b
  pub part_splice : (ws : List ℕ) (a k : ℕ) (b : ℕ → ℕ) → a + k ≤ length ws → Words W ws → put_mid a k ws (from_row W o k b) ≡ spliced W o ws (a * W) (k * W) b
  part_splice ws a k b room words =
      is_spliced_parts W pos o ws (a * W) (k * W) b put (put_length ws new a k room len) (put_words ws new a k room len W words (words_from_row W o k b))
      (λ i h. same_bit W pos o put new (a * W + i) i
      (ap (λ (m : ℕ). get_or put m 0) (mul-add-div_right pos a i) ∙ put_inside ws new a k room len (i / W) ((div-lt_iff_lt-mul pos).1 h)) (mul-add-mod_self_right a W i)
      ∙ row_from_row W pos o k b i h)
      (λ j h. same_bit W pos o put ws j j (put_below ws new a k room len (j / W) ((div-lt_iff_lt-mul pos).1 h)) refl)
      (λ j h l. same_bit W pos o put ws j j (put_above ws new a k room len (j / W) ((le-div_iff_mul-le pos).1 (omega (arith, add-mul a k W)))) refl)
    where
      new : List ℕ
      new = from_row W o k b

      put : List ℕ
      put = put_mid a k ws (from_row W o k b)

      len : length (from_row W o k b) ≡ k
      len = length_from_row W o k b

  -- what a whole-word store of the row g promises of the part that it was lent is a splice of the caller's words
  pub lent_on : (ws : List ℕ) (a n k : ℕ) (g : ℕ → ℕ) {left : List ℕ} → n ≡ k → a + k ≤ length ws → Words W ws
      → left ≡ from_row W o (length (mid_of a n ws)) g → put_mid a n ws left ≡ spliced W o ws (a * W) (k * W) g
  lent_on ws a n k g {left} e room words got =
      let len : length (mid_of a n ws) ≡ k = mid_length ws a n k e room in
      ap (λ (x : ℕ). put_mid a x ws left) e ∙ ap (λ (y : List ℕ). put_mid a k ws y) (got ∙ ap (λ (x : ℕ). from_row W o x g) len) ∙ part_splice ws a k g room words
