-- Words that are all one word f: parts, joins, and the `or` of their differences from f. Assumes nothing.
use mathlib.Core.Path.{◌≡◌, refl, sym, ap, ◌∙◌}
use mathlib.Core.Logic.{◌≢◌}
use mathlib.Core.List.{List}
use Prim.Native.Nat.{ℕ, ◌+◌, ◌-◌, ◌≤◌, ◌<◌}
use native.Mathlib.Decide.{dec_lt}
use native.Mathlib.Omega.{arith}
use lib.ListN.{get_or, take, drop}
use lib.Bits.{bit_or, bit_xor}
use Rattle.laws.proofs.Words.Agree.{Differs, differs_none, differs_more}
use Rattle.laws.proofs.Rows.Part.{part_word}

-- the words from a up to but without e are f
abbrev pub Alike : ℕ → List ℕ → ℕ → ℕ → Type 0
Alike f ws a e = (k : ℕ) → a ≤ k → k < e → get_or ws k 0 ≡ f

pub alike_none : (f : ℕ) (ws : List ℕ) (a : ℕ) → Alike f ws a a
alike_none f ws a k l m = absurd (omega arith)

pub alike_join : (f : ℕ) (ws : List ℕ) (a i e : ℕ) → Alike f ws a i → Alike f ws i e → Alike f ws a e
alike_join f ws a i e one two k l m = go (dec_lt k i)
  where
    go : Dec (k < i) → get_or ws k 0 ≡ f
    go (yes h) = one k l h
    go (no h) = two k (omega arith) m

-- a word that is f makes a stretch of one
pub alike_one : (f : ℕ) (ws : List ℕ) (i j : ℕ) → i + 1 ≡ j → get_or ws i 0 ≡ f → Alike f ws i j
alike_one f ws i j e p k l m = let q : k ≡ i = omega arith in rw q p

-- ---- words gathered by `or`

-- v is 0 exactly if the first i words are f
abbrev pub Gathered : ℕ → List ℕ → ℕ → ℕ → Type 0
Gathered f ws i v = Differs v i (λ k. get_or ws k 0) (λ _. f)

pub gathered_none : (f : ℕ) (ws : List ℕ) {v : ℕ} → v ≡ 0 → Gathered f ws 0 v
gathered_none f ws e = differs_none e (λ k. get_or ws k 0) (λ _. f)

-- and so one word further
pub gathered_more : (f : ℕ) (ws : List ℕ) (i v : ℕ) {x : ℕ} → x ≡ get_or ws i 0 → Gathered f ws i v → Gathered f ws (i + 1) (bit_or v (bit_xor x f))
gathered_more f ws i v {x} e = differs_more v i x f (λ k. get_or ws k 0) (λ _. f) e refl

-- a block, the words from i up to j, lent on to be gathered
module _ (f : ℕ) (ws : List ℕ) (i j : ℕ) {block : List ℕ} (is : block ≡ take (j - i) (drop i ws)) {n v : ℕ} (to : i + n ≡ j) (g : Gathered f block n v) where
  word : (k : ℕ) → k < n → get_or block k 0 ≡ get_or ws (i + k) 0
  word k l = ap (λ (b : List ℕ). get_or b k 0) is ∙ part_word ws i (j - i) k (omega arith)

  pub block_alike : v ≡ 0 → Alike f ws i j
  block_alike e k l m =
      let q : i + (k - i) ≡ k = omega arith in
      rw q at (sym (word (k - i) (omega arith)) ∙ g.none_all e (k - i) (omega arith))

  pub block_other : v ≢ 0 → Alike f ws i j → ⊥
  block_other e all = e (g.all_none (λ k m. word k m ∙ all (i + k) (omega arith) (omega arith)))
