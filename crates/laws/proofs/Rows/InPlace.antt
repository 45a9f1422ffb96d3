-- Rows worked on in place, a word or a piece of a word at a time: moved inside one buffer, and exchanged between two at equal heads.
-- Assumes nothing.
use mathlib.Core.Path.{◌≡◌, refl, sym, ap, ap₂, ◌∙◌}
use mathlib.Core.Logic.{◌⊎◌, inl, inr, ⊎_elim}
use mathlib.Core.List.{List}
use Prim.Native.Nat.{ℕ, ◌+◌, ◌-◌, ◌*◌, ◌/◌, ◌%◌, ◌^◌, ◌≤◌, ◌<◌}
use native.Mathlib.Nat.{add-zero, zero-add, add-mul, one-mul, mul-le-mul_right}
use native.Mathlib.Omega.{arith}
use lib.ListN.{length, get_or, set}
use Rattle.std.specs.Prelude.{map}
use Rattle.std.proofs.lemmas.List.{length-map, map-set}
use Rattle.laws.specs.Types.{Order}
use Rattle.rules.specs.Bits.{bit_n}
use Rattle.rules.specs.Positions.{position, row, spliced}
use Rattle.rules.specs.Rows.{moved}
use Rattle.rules.proofs.Bits.Digits.{of_bits_lt}
use Rattle.rules.proofs.Rows.Row.{Words, row_bit}
use Rattle.rules.proofs.Rows.Splice.{length_spliced, words_spliced, splice_eq}
use Rattle.laws.proofs.Rows.Word.{set_is_spliced}
use Rattle.laws.proofs.Words.Moves.{word_from, from_bit}
use Rattle.laws.proofs.Rows.Part.{row_near}
use Rattle.laws.proofs.Rows.Scratch.{step_up, step_down}

-- the same places, said otherwise
pub moved_at : (W : ℕ) (o : Order) (ws : List ℕ) {a b c d m n : ℕ} → a ≡ b → c ≡ d → m ≡ n → moved W o ws a c m ≡ moved W o ws b d n
moved_at W o ws p q r = cc

module _ (W : ℕ) (pos : 0 < W) (o : Order) where
  -- a word made anew from W bits of the buffer that it is in: these bits moved
  word_moved : (ws : List ℕ) (a at v : ℕ) → a < length ws → Words W ws → v ≡ word_from W o ws at → set ws a v ≡ moved W o ws at (a * W) W
  unfolding moved word_from
  word_moved ws a at v room words e =
      set_is_spliced W pos o ws a room v small words 0 W (omega arith) (λ i. row W o ws (at + i))
      (λ i l. ap₂ (λ (x p : ℕ). bit_n x (position W o p)) e (zero-add i) ∙ from_bit W o ws at i l ∙ sym (row_bit W o ws (at + i)))
      (λ i l. absurd (omega arith)) (λ i l m. absurd (omega arith))
      ∙ ap (λ (x : ℕ). spliced W o ws x W (λ i. row W o ws (at + i))) (add-zero (a * W))
    where
      small : v < 2 ^ W
      small = rw e (of_bits_lt W (λ p. row W o ws (at + position W o p)))

  length_moved : (ws : List ℕ) (from to n : ℕ) {one : List ℕ} → one ≡ moved W o ws from to n → length one ≡ length ws
  unfolding moved
  length_moved ws from to n e = ap length e ∙ length_spliced W o ws to n (λ i. row W o ws (from + i))

  words_moved : (ws : List ℕ) (from to n : ℕ) {one : List ℕ} → one ≡ moved W o ws from to n → Words W one
  unfolding moved
  words_moved ws from to n e = rw e (words_spliced W o ws to n (λ i. row W o ws (from + i)))

  -- words from the a-th on become the bits from index h of word b on, word by word; i of them stand there
  module _ (ws : List ℕ) (a b h : ℕ) where
    next_word : (i : ℕ) (one : List ℕ) {v : ℕ} → a + i < length one → Words W one → v ≡ word_from W o one ((b + i) * W + h)
        → set one (a + i) v ≡ moved W o one (b * W + h + i * W) (a * W + i * W) W
    next_word i one {v} room words e =
        word_moved one (a + i) ((b + i) * W + h) v room words e ∙ moved_at W o one (omega (arith, add-mul b i W)) (add-mul a i W) refl

    -- upward
    pub word_up : (i : ℕ) {one : List ℕ} {v : ℕ} → a + i < length ws → b * W + h + (i + 1) * W ≤ length ws * W → a * W + (i + 1) * W ≤ length ws * W
        → (a * W ≤ b * W + h) ⊎ (b * W + h + (i + 1) * W ≤ a * W)
        → one ≡ moved W o ws (b * W + h) (a * W) (i * W) → (Words W one → v ≡ word_from W o one ((b + i) * W + h))
        → set one (a + i) v ≡ moved W o ws (b * W + h) (a * W) ((i + 1) * W)
    word_up i {one} {v} room reads fits apart e new =
        let words = words_moved ws (b * W + h) (a * W) (i * W) e in
        let len = length_moved ws (b * W + h) (a * W) (i * W) e in
        let more : (i + 1) * W ≡ i * W + W = omega (arith, add-mul i 1 W, one-mul W) in
        step_up W pos o ws (b * W + h) (a * W) (i * W) W (rw (← more) fits) (rw (← more) reads) (rw (← more) apart) e (next_word i one (omega arith) words (new words))
        ∙ moved_at W o ws refl refl (sym more)

    -- downward: the k - j last ones stand there, and the one before them is next
    pub word_down : (k i j : ℕ) {one : List ℕ} {v : ℕ} → j ≡ i + 1 → j ≤ k → a + k ≤ length ws → b * W + h + k * W ≤ length ws * W → a * W + k * W ≤ length ws * W
        → b * W + h ≤ a * W
        → one ≡ moved W o ws (b * W + h + j * W) (a * W + j * W) ((k - j) * W) → (Words W one → v ≡ word_from W o one ((b + i) * W + h))
        → set one (a + i) v ≡ moved W o ws (b * W + h + i * W) (a * W + i * W) ((k - i) * W)
    word_down k i j {one} {v} q l room reads fits le e new =
        let words = words_moved ws (b * W + h + j * W) (a * W + j * W) ((k - j) * W) e in
        let len = length_moved ws (b * W + h + j * W) (a * W + j * W) ((k - j) * W) e in
        let more : j * W ≡ i * W + W = ap (λ (x : ℕ). x * W) q ∙ omega (arith, add-mul i 1 W, one-mul W) in
        let rest : k * W ≡ j * W + (k - j) * W = ap (λ (x : ℕ). x * W) (omega arith) ∙ add-mul j (k - j) W in
        let all : k * W ≡ i * W + (k - i) * W = ap (λ (x : ℕ). x * W) (omega arith) ∙ add-mul i (k - i) W in
        step_down W pos o ws (b * W + h + i * W) (a * W + i * W) W ((k - j) * W) (omega arith) (omega arith) (omega arith)
        (e ∙ moved_at W o ws (omega arith) (omega arith) refl) (next_word i one (omega arith) words (new words))
        ∙ moved_at W o ws refl refl (omega arith)

  -- n bits within one word, put under a mask out of a word of another row with the same head
  pub near_put : (ws vs : List ℕ) (d s n : ℕ) {out : List ℕ} → d % W ≡ s % W → d % W + n ≤ W
      → out ≡ spliced W o ws d n (λ i. bit_n (get_or vs (s / W) 0) (position W o (d % W + i))) → out ≡ spliced W o ws d n (λ i. row W o vs (s + i))
  near_put ws vs d s n e fits q =
      q ∙ splice_eq W pos o ws d n (λ i. bit_n (get_or vs (s / W) 0) (position W o (d % W + i))) (λ i. row W o vs (s + i))
      (λ i l. ap (λ (x : ℕ). bit_n (get_or vs (s / W) 0) (position W o (x + i))) e ∙ sym (row_near W o vs s i (omega arith)))

-- ---- a word of a type that is made anew from W bits of its buffer, which begin at index h of word b + i, and stored as word a + i: one word more is
-- moved, of k. The bits reach e words further than the k that they begin in: none at h 0, else one.

module _ {Word : Type 0} (value : Word → ℕ) (W : ℕ) (pos : 0 < W) (o : Order) (ws one : List Word) (a b h e k i : ℕ) (x : Word) (in_word : h ≤ e * W) (next : i < k)
    (reads : b + k + e ≤ length ws) (fits : a + k ≤ length ws) (new : Words W (map value one) → value x ≡ word_from W o (map value one) ((b + i) * W + h)) where
  many : (m n : ℕ) → m + n ≤ length ws → m * W + n * W ≤ length (map value ws) * W
  many m n l = rw (length-map ws value) (omega (arith, mul-le-mul_right W l, add-mul m n W))

  pub stored_up : (a ≤ b) ⊎ (b + k + e ≤ a) → map value one ≡ moved W o (map value ws) (b * W + h) (a * W) (i * W)
      → map value (set one (a + i) x) ≡ moved W o (map value ws) (b * W + h) (a * W) ((i + 1) * W)
  stored_up apart before =
      map-set value one (a + i) x
      ∙ word_up W pos o (map value ws) a b h i (rw (length-map ws value) (omega arith)) (omega (arith, many b (i + 1 + e) (omega arith))) (many a (i + 1) (omega arith))
      (⊎_elim (λ l. inl (omega (arith, mul-le-mul_right W l)))
      (λ l. let m : b + (i + 1 + e) ≤ a = omega arith in inr (omega (arith, mul-le-mul_right W m))) apart)
      before new

  pub stored_down : (j : ℕ) → j ≡ i + 1 → b + e ≤ a → map value one ≡ moved W o (map value ws) (b * W + h + j * W) (a * W + j * W) ((k - j) * W)
      → map value (set one (a + i) x) ≡ moved W o (map value ws) (b * W + h + i * W) (a * W + i * W) ((k - i) * W)
  stored_down j q above before =
      map-set value one (a + i) x
      ∙ word_down W pos o (map value ws) a b h k i j q (omega arith) (rw (length-map ws value) fits) (omega (arith, many b (k + e) (omega arith))) (many a k fits)
      (omega (arith, mul-le-mul_right W above))
      before new
