-- Rows moved run by run: inside one buffer, and between two that are swapped, where one waits in a scratch buffer. Assumes nothing.
use mathlib.Core.Path.{◌≡◌, sym, ap, ◌∙◌}
use mathlib.Core.Logic.{◌⊎◌, inl, inr}
use mathlib.Core.List.{List}
use Prim.Native.Nat.{ℕ, ◌+◌, ◌*◌, ◌≤◌, ◌<◌}
use native.Mathlib.Nat.{add_assoc}
use native.Mathlib.Omega.{arith}
use lib.ListN.{length}
use Rattle.laws.specs.Types.{Order}
use Rattle.rules.specs.Positions.{row, spliced}
use Rattle.rules.specs.Rows.{moved}
use Rattle.rules.proofs.Rows.Row.{Words, row_bit}
use Rattle.rules.proofs.Rows.Splice.{spliced_inside, spliced_past, spliced_before, splice_eq, splice_up, splice_none}
use Rattle.rules.proofs.Rows.Copy.{copy_up, copy_down}
use Rattle.laws.proofs.Rows.Part.{grown}

module _ (W : ℕ) (pos : 0 < W) (o : Order) where
  -- what a scratch buffer holds after n bits were copied into it
  pub held : (ts ws : List ℕ) (g from n : ℕ) {t : List ℕ} → g + n ≤ length ts * W → t ≡ spliced W o ts g n (λ i. row W o ws (from + i))
      → (i : ℕ) → i < n → row W o t (g + i) ≡ row W o ws (from + i)
  held ts ws g from n fits e i l =
      ap (λ (x : List ℕ). row W o x (g + i)) e ∙ spliced_inside W pos o ts g n (λ i. row W o ws (from + i)) fits i l ∙ row_bit W o ws (from + i)

  -- nothing moved
  pub moved_none : (ws : List ℕ) (from to n : ℕ) → n ≡ 0 → Words W ws → ws ≡ moved W o ws from to n
  unfolding moved
  moved_none ws from to n z words = sym (ap (λ (x : ℕ). spliced W o ws to x (λ i. row W o ws (from + i))) z ∙ splice_none W pos o ws to (λ i. row W o ws (from + i)) words)

  -- upward where source and destination have no place in common, the destination above
  apart : (ws : List ℕ) (src dst k n : ℕ) → dst + (k + n) ≤ length ws * W → src + (k + n) ≤ dst
      → moved W o (moved W o ws src dst k) (src + k) (dst + k) n ≡ moved W o ws src dst (k + n)
  unfolding moved
  apart ws src dst k n fits le =
      splice_eq W pos o (moved W o ws src dst k) (dst + k) n (λ i. row W o (moved W o ws src dst k) (src + k + i)) (λ i. row W o ws (src + (k + i)))
      (λ i l. spliced_before W pos o ws dst k (λ i. row W o ws (src + i)) (omega arith) (src + k + i) (omega arith) ∙ ap (row W o ws) (add_assoc src k i))
      ∙ splice_up W pos o ws dst k n (λ i. row W o ws (src + i))

  -- a loop's step upward, where the source range does not contain the destination
  pub step_up : (ws : List ℕ) (src dst k n : ℕ) {one two : List ℕ} → dst + (k + n) ≤ length ws * W → src + (k + n) ≤ length ws * W → (dst ≤ src) ⊎ (src + (k + n) ≤ dst)
      → one ≡ moved W o ws src dst k → two ≡ moved W o one (src + k) (dst + k) n → two ≡ moved W o ws src dst (k + n)
  step_up ws src dst k n fits reads (inl le) e f = f ∙ ap (λ (x : List ℕ). moved W o x (src + k) (dst + k) n) e ∙ copy_up W pos o ws src dst k n fits reads le
  step_up ws src dst k n fits reads (inr le) e f = f ∙ ap (λ (x : List ℕ). moved W o x (src + k) (dst + k) n) e ∙ apart ws src dst k n fits le

  -- and downward: the last n stand there already, the k before them are next
  pub step_down : (ws : List ℕ) (src dst k n : ℕ) {one two : List ℕ} → dst + (k + n) ≤ length ws * W → src + (k + n) ≤ length ws * W → src ≤ dst
      → one ≡ moved W o ws (src + k) (dst + k) n → two ≡ moved W o one src dst k → two ≡ moved W o ws src dst (k + n)
  step_down ws src dst k n fits reads le e f = f ∙ ap (λ (x : List ℕ). moved W o x src dst k) e ∙ copy_down W pos o ws src dst k n fits reads le

  -- ---- swap

  -- i bits are exchanged, and the n after them; ws and vs stand for either side
  pub step_swap : (ws vs : List ℕ) (d s i n m : ℕ) (b : ℕ → ℕ) {one other two : List ℕ} → i + n ≡ m → s + m ≤ length vs * W
      → one ≡ spliced W o ws d i (λ j. row W o vs (s + j)) → other ≡ spliced W o vs s i b → two ≡ spliced W o one (d + i) n (λ j. row W o other (s + i + j))
      → two ≡ spliced W o ws d m (λ j. row W o vs (s + j))
  step_swap ws vs d s i n m b {one} {other} e fits p q r =
      grown W pos o ws d (λ j. row W o vs (s + j)) i n m (λ j. row W o other (s + i + j)) e p r
      (λ j l. ap (row W o other) (add_assoc s i j) ∙ ap (λ (x : List ℕ). row W o x (s + (i + j))) q
      ∙ spliced_past W pos o vs s i b (omega arith) (s + (i + j)) (omega arith) (omega arith))

  -- the other side, out of the scratch buffer
  pub from_scratch : (ts ws vs : List ℕ) (g d s n : ℕ) {t out : List ℕ} → g + n ≤ length ts * W → t ≡ spliced W o ts g n (λ i. row W o ws (d + i))
      → out ≡ spliced W o vs s n (λ i. row W o t (g + i)) → out ≡ spliced W o vs s n (λ i. row W o ws (d + i))
  from_scratch ts ws vs g d s n {t} fits e f =
      f ∙ splice_eq W pos o vs s n (λ i. row W o t (g + i)) (λ i. row W o ws (d + i)) (held ts ws g d n fits e)
