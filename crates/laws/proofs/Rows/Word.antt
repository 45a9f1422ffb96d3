-- One word stored anew, as a splice of its row. Assumes nothing.
use mathlib.Core.Path.{◌≡◌, sym, ap, ◌∙◌}
use mathlib.Core.Logic.{◌≢◌}
use mathlib.Core.List.{List}
use Prim.Native.Nat.{ℕ, ◌+◌, ◌*◌, ◌/◌, ◌%◌, ◌^◌, ◌≤◌, ◌<◌}
use native.Mathlib.Nat.{div-add-mod', mod-lt, add_assoc}
use native.Mathlib.Decide.{ℕ_discrete}
use native.Mathlib.Omega.{arith}
use lib.ListN.{length, get_or, set, length-set}
use lib.Seq.{get_or-set_same, get_or-set_other}
use Rattle.laws.specs.Types.{Order}
use Rattle.rules.specs.Bits.{bit_n}
use Rattle.rules.specs.Positions.{row, position, spliced}
use Rattle.rules.proofs.Rows.Row.{Words, row_at, row_is}
use Rattle.rules.proofs.Rows.Splice.{is_spliced_parts}

module _ (W : ℕ) (pos : 0 < W) (o : Order) (ws : List ℕ) (k : ℕ) (inr : k < length ws) (v : ℕ) (small : v < 2 ^ W) where
  pub words_set : Words W ws → Words W (set ws k v)
  words_set words j = go (ℕ_discrete j k)
    where
      go : Dec (j ≡ k) → get_or (set ws k v) j 0 < 2 ^ W
      go (yes p) = rw (p, get_or-set_same ws k v 0 inr) small
      go (no n) = rw (get_or-set_other ws k j v 0 n) (words j)

  pub row_set : (i : ℕ) → i < W → row W o (set ws k v) (k * W + i) ≡ bit_n v (position W o i)
  row_set i h = row_at W o (set ws k v) k i h ∙ ap (λ (x : ℕ). bit_n x (position W o i)) (get_or-set_same ws k v 0 inr)

  pub row_set_other : (j : ℕ) → j / W ≢ k → row W o (set ws k v) j ≡ row W o ws j
  row_set_other j n =
      row_is W pos o (set ws k v) j ∙ ap (λ (x : ℕ). bit_n x (position W o (j % W))) (get_or-set_other ws k (j / W) v 0 n) ∙ sym (row_is W pos o ws j)

  -- a place whose bit of the word, if it is one of the word's, stays
  kept : (j : ℕ) → ((i : ℕ) → i < W → k * W + i ≡ j → bit_n v (position W o i) ≡ bit_n (get_or ws k 0) (position W o i))
      → row W o (set ws k v) j ≡ row W o ws j
  kept j same = go (ℕ_discrete (j / W) k)
    where
      go : Dec (j / W ≡ k) → row W o (set ws k v) j ≡ row W o ws j
      go (no n) = row_set_other j n
      go (yes p) =
          let e : k * W + j % W ≡ j = rw (← p) (div-add-mod' j W) in
          rw (← e) (row_set (j % W) (mod-lt j pos) ∙ same (j % W) (mod-lt j pos) e ∙ sym (row_at W o ws k (j % W) (mod-lt j pos)))

  -- n bits of the word, from index h on, and its other bits as they were: a splice
  pub set_is_spliced : Words W ws → (h n : ℕ) → h + n ≤ W → (b : ℕ → ℕ)
      → ((i : ℕ) → i < n → bit_n v (position W o (h + i)) ≡ b i % 2)
      → ((i : ℕ) → i < h → bit_n v (position W o i) ≡ bit_n (get_or ws k 0) (position W o i))
      → ((i : ℕ) → h + n ≤ i → i < W → bit_n v (position W o i) ≡ bit_n (get_or ws k 0) (position W o i))
      → set ws k v ≡ spliced W o ws (k * W + h) n b
  set_is_spliced words h n fits b put below above =
      is_spliced_parts W pos o ws (k * W + h) n b (set ws k v) (length-set ws k v) (words_set words)
      (λ i l. ap (row W o (set ws k v)) (add_assoc (k * W) h i) ∙ row_set (h + i) (omega arith) ∙ put i l)
      (λ j l. kept j (λ i m p. below i (omega arith)))
      (λ j l q. kept j (λ i m p. above i (omega arith) m))
