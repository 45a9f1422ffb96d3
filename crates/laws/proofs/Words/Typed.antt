-- Words of a type: what follows from its width being one of document 01's, and the numbers of a row of them. Assumes nothing.
use mathlib.Core.Path.{◌≡◌, refl, sym, ap, ap₂, subst, ◌∙◌}
use mathlib.Core.List.{List, [], ◌∷◌, ◌++◌}
use Prim.Native.Nat.{ℕ, zero, suc, ◌+◌, ◌-◌, ◌*◌, ◌/◌, ◌%◌, ◌^◌, ◌≤◌, ◌<◌}
use native.Mathlib.Nat.{mod-eq_of_lt, div-lt_iff_lt-mul, div-mul-le_self, add-mul, le_of_mul-le-mul_right, zero-mul, one-mul, mul-le-mul_right}
use native.Mathlib.Omega.{arith}
use native.Mathlib.Decide.{dec_le}
use lib.ListN.{length, get_or, take, drop}
use lib.Pow.{pow_pos}
use lib.Bits.{bit_and, and_le_l}
use borrow.Rule.Slice.PartMut.{put_mid, mid_of, post_of}
use Rattle.std.specs.Prelude.{map}
use Rattle.std.specs.List.{take-map}
use Rattle.std.proofs.Common.{length-take, length-drop}
use Rattle.std.proofs.lemmas.List.{length-map, map-append, drop-map, get_or-map}
use Rattle.laws.specs.Types.{Width, W8, W64}
use Rattle.rules.specs.Bits.{bits}
use Rattle.rules.proofs.Rows.Row.{Words}

-- ---- widths

-- how many words of the width are 64 bits
pub divides_64 : (v : Width) (W : ℕ) → bits v ≡ W → 64 / W * W ≡ 64
divides_64 W8 W e = subst (λ w. 64 / w * w ≡ 64) e refl
divides_64 W64 W e = subst (λ w. 64 / w * w ≡ 64) e refl

-- the ones of 64 bits, as a word
pub all_ones : (v : Width) (W : ℕ) → bits v ≡ W → (2 ^ 64 - 1) % 2 ^ W ≡ 2 ^ W - 1
all_ones W8 W e = subst (λ w. (2 ^ 64 - 1) % 2 ^ w ≡ 2 ^ w - 1) e refl
all_ones W64 W e = subst (λ w. (2 ^ 64 - 1) % 2 ^ w ≡ 2 ^ w - 1) e refl

-- ---- places of a row

-- the word of a place where some bits of a row of k words begin is one of them
pub holds_place : (W d n k : ℕ) → 0 < W → 1 ≤ n → d + n ≤ k * W → d / W < k
holds_place W d n k pos some fits = (div-lt_iff_lt-mul pos).1 (omega arith)

-- where k whole words follow a place, so many words follow the place's word
pub words_room : (W d k n : ℕ) → 0 < W → d + k * W ≤ n * W → d / W + k ≤ n
words_room W d k n pos fits = le_of_mul-le-mul_right (omega (arith, add-mul (d / W) k W, div-mul-le_self d W)) pos

-- ---- numbers that are words already

pub small_and : (W x m : ℕ) → x < 2 ^ W → bit_and x m % 2 ^ W ≡ bit_and x m
small_and W x m h = mod-eq_of_lt (omega (arith, and_le_l x m))

-- ---- the numbers of a row

module _ {Word : Type 0} (value : Word → ℕ) where
  -- each is of W bits
  pub row_below : (W : ℕ) → ((x : Word) → value x < 2 ^ W) → (ws : List Word) → Words W (map value ws)
  row_below W below [] k = pow_pos W
  row_below W below (x ∷ ws) zero = below x
  row_below W below (x ∷ ws) (suc k) = row_below W below ws k

  -- a part that was lent on, k words from the a-th on, and the row when it is back
  pub mid_map : (a k : ℕ) (ws : List Word) → map value (mid_of a k ws) ≡ mid_of a k (map value ws)
  mid_map a k ws = sym (ap (take k) (drop-map value a ws) ∙ take-map value k _)

  pub lent_length : (a k : ℕ) (ws left : List Word) → length left ≡ length (mid_of a k ws) → length (map value left) ≡ length (mid_of a k (map value ws))
  lent_length a k ws left e = length-map left value ∙ e ∙ sym (length-map (mid_of a k ws) value) ∙ ap length (mid_map a k ws)

  pub lent_map : (a k : ℕ) (ws left : List Word) → map value (put_mid a k ws left) ≡ put_mid a k (map value ws) (map value left)
  lent_map a k ws left =
      map-append value (take a ws) (left ++ post_of a k ws)
      ∙ ap₂ (λ (x y : List ℕ). x ++ y) (sym (take-map value a ws))
      (map-append value left (post_of a k ws) ∙ ap (λ (x : List ℕ). map value left ++ x) (sym (ap (drop k) (drop-map value a ws) ∙ drop-map value k _)))

  -- the words from `from` on and below `upto`
  pub part_map : (from upto : ℕ) (ws : List Word) → map value (take (upto - from) (drop from ws)) ≡ take (upto - from) (drop from (map value ws))
  part_map from upto ws = sym (ap (take (upto - from)) (drop-map value from ws) ∙ take-map value (upto - from) _)

  -- a word that code read, as a number of the row
  pub number_read : (ws : List Word) (i : ℕ) {x : Word} → i < length ws → x ≡ get_or ws i x → value x ≡ get_or (map value ws) i 0
  number_read ws i {x} l e = ap value e ∙ sym (get_or-map value ws i x 0 l)

-- machine integers, whose numbers are their low W bits, are the numbers themselves
pub as_they_are : (W : ℕ) (ws : List ℕ) → Words W ws → map (λ (x : ℕ). x % 2 ^ W) ws ≡ ws
as_they_are W [] h = refl
as_they_are W (x ∷ ws) h = ap₂ ◌∷◌ (mod-eq_of_lt (h 0)) (as_they_are W ws (λ k. h (suc k)))

-- ---- words of n that are counted

-- word i lies within them
pub word_within : (W i n : ℕ) → i < n → i * W + W ≤ n * W
word_within W i n h = let le : (i + 1) * W ≤ n * W = mul-le-mul_right W (omega arith) in omega (arith, le, add-mul i 1 W, one-mul W)

-- those from word i on are one more than those after it
pub words_left : (W i n : ℕ) → i < n → (n - i) * W ≡ (n - 1 - i) * W + W
words_left W i n h =
    let e : n - i ≡ n - 1 - i + 1 = omega arith in
    ap (λ (x : ℕ). x * W) e ∙ add-mul (n - 1 - i) 1 W ∙ ap (λ (x : ℕ). (n - 1 - i) * W + x) (one-mul W)

-- what the words from word k on hold fits from there on
pub room_from : (W n k m : ℕ) → 0 < m → m ≤ (n - k) * W → k * W + m ≤ n * W
room_from W n k m some h = go (dec_le k n)
  where
    go : Dec (k ≤ n) → k * W + m ≤ n * W
    go (yes l) =
        let e : n - k + k ≡ n = omega arith in
        let p : (n - k + k) * W ≡ n * W = ap (λ (x : ℕ). x * W) e in
        omega (arith, h, p, add-mul (n - k) k W)
    go (no l) =
        let e : n - k ≡ 0 = omega arith in
        let q = rw (e, zero-mul W) at h in
        omega arith

-- the words from `from` on and below `upto` of a row are so many
pub part_length : {Word : Type 0} (from upto : ℕ) (ws : List Word) → from ≤ upto → upto ≤ length ws → from + length (take (upto - from) (drop from ws)) ≡ upto
part_length from upto ws le room = simp (length-take, length-drop) (omega arith)

-- rows of words whose numbers are the same are the same
pub same_words : (W : ℕ) (xs ys : List ℕ) → Words W xs → Words W ys → map (λ (x : ℕ). x % 2 ^ W) xs ≡ map (λ (x : ℕ). x % 2 ^ W) ys → xs ≡ ys
same_words W xs ys small below e = sym (as_they_are W xs small) ∙ e ∙ as_they_are W ys below

-- the same of rows of machine integers that are as wide as their numbers are taken to be
pub same_integers : (W : ℕ) (value : ℕ → ℕ) → value ≡ (λ (x : ℕ). x % 2 ^ W) → (xs ys : List ℕ) → Words W xs → Words W ys → map value xs ≡ map value ys → xs ≡ ys
same_integers W value e xs ys small below same = same_words W xs ys small below (subst (λ (f : ℕ → ℕ). map f xs ≡ map f ys) e same)
