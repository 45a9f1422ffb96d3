-- Words gone over block by block: what is left begins at place i, and a block there. Assumes nothing.
use mathlib.Core.Path.{◌≡◌, sym, ap, ◌∙◌}
use mathlib.Core.List.{List}
use Prim.Native.Nat.{ℕ, ◌+◌, ◌-◌, ◌<◌}
use native.Mathlib.Omega.{arith}
use lib.ListN.{length, get_or, take, drop}
use lib.Seq.{get_or-take, get_or-drop, drop-drop}
use Rattle.std.specs.Prelude.{map}
use Rattle.std.specs.List.{take-map}
use Rattle.std.proofs.lemmas.List.{drop-map}
use Rattle.std.proofs.lemmas.Slice.{between_to_end}

module _ {Word : Type 0} (value : Word → ℕ) (ws : List Word) (i : ℕ) {rest : List Word} (at : rest ≡ drop i ws) where
  -- a word of what is left, and of a block
  pub rest_word : (j : ℕ) → get_or (map value rest) j 0 ≡ get_or (map value ws) (i + j) 0
  rest_word j = ap (λ (l : List Word). get_or (map value l) j 0) at ∙ ap (λ (l : List ℕ). get_or l j 0) (sym (drop-map value i ws)) ∙ get_or-drop i (map value ws) j 0

  pub block_word : (size j : ℕ) → j < size → get_or (map value (take size rest)) j 0 ≡ get_or (map value ws) (i + j) 0
  block_word size j l = ap (λ (x : List ℕ). get_or x j 0) (sym (take-map value size rest)) ∙ get_or-take size (map value rest) j 0 l ∙ rest_word j

  -- what is left after it
  pub rest_after : (size : ℕ) → take (length rest - size) (drop size rest) ≡ drop (i + size) ws
  rest_after size = between_to_end rest size (length rest) (omega arith) ∙ ap (drop size) at ∙ drop-drop size i ws
