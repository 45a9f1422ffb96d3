-- A list filled from the front, one store a turn: what stands below i is new, what stands from i on is old. Assumes nothing.
use mathlib.Core.Path.{◌≡◌, ◌∙◌}
use mathlib.Core.List.{List}
use Prim.Native.Nat.{ℕ, ◌+◌, ◌≤◌, ◌<◌}
use native.Mathlib.Decide.{dec_lt}
use native.Mathlib.Omega.{arith}
use lib.ListN.{length, get_or, set}
use lib.Seq.{get_or-set_same, get_or-set_other}
use Rattle.std.specs.Prelude.{map}
use Rattle.std.proofs.lemmas.List.{length-map, map-set}

module _ (l : List ℕ) (i v : ℕ) where
  pub filled_more : (f : ℕ → ℕ) → i < length l → ((k : ℕ) → k < i → get_or l k 0 ≡ f k) → v ≡ f i → (k : ℕ) → k < i + 1 → get_or (set l i v) k 0 ≡ f k
  filled_more f h all e k m = go (dec_lt k i)
    where
      go : Dec (k < i) → get_or (set l i v) k 0 ≡ f k
      go (yes n) = get_or-set_other l i k v 0 (λ q. absurd (omega arith)) ∙ all k n
      go (no n) = let q : k ≡ i = omega arith in rw q (get_or-set_same l i v 0 h ∙ e)

  pub kept_more : (old : List ℕ) → ((k : ℕ) → i ≤ k → get_or l k 0 ≡ get_or old k 0) → (k : ℕ) → i + 1 ≤ k → get_or (set l i v) k 0 ≡ get_or old k 0
  kept_more old all k m = get_or-set_other l i k v 0 (λ q. absurd (omega arith)) ∙ all k (omega arith)

-- the same of the numbers of words, both facts at once: word x is stored as the i-th
pub words_filled : {Word : Type 0} (value : Word → ℕ) (ws : List Word) (i : ℕ) (x : Word) (f : ℕ → ℕ) (old : List ℕ) → i < length ws
    → ((k : ℕ) → k < i → get_or (map value ws) k 0 ≡ f k) × ((k : ℕ) → i ≤ k → get_or (map value ws) k 0 ≡ get_or old k 0) → value x ≡ f i
    → ((k : ℕ) → k < i + 1 → get_or (map value (set ws i x)) k 0 ≡ f k) × ((k : ℕ) → i + 1 ≤ k → get_or (map value (set ws i x)) k 0 ≡ get_or old k 0)
words_filled value ws i x f old room so e =
    rw (map-set value ws i x) (filled_more (map value ws) i (value x) f (rw (length-map ws value) room) so.0 e, kept_more (map value ws) i (value x) old so.1)
