-- Splices made a run at a time from a row that is itself being written: copying inside one buffer, upward and downward. Assumes nothing.
use mathlib.Core.Path.{◌≡◌, ap, ◌∙◌}
use mathlib.Core.List.{List}
use Prim.Native.Nat.{ℕ, ◌+◌, ◌*◌, ◌≤◌, ◌<◌}
use native.Mathlib.Nat.{add_assoc}
use native.Mathlib.Omega.{arith}
use lib.ListN.{length}
use Rattle.rules.specs.Types.{Order}
use Rattle.rules.specs.Positions.{row, spliced}
use Rattle.rules.specs.Rows.{moved}
use Rattle.rules.proofs.Rows.Splice.{spliced_past, spliced_before, splice_up, splice_down, splice_eq}

module _ (W : ℕ) (pos : 0 < W) (o : Order) (ws : List ℕ) (src dst k n : ℕ) (fits : dst + (k + n) ≤ length ws * W) (reads : src + (k + n) ≤ length ws * W) where
  -- upward, where the destination is not above the source: the first k, and then the n after them, from what the buffer holds by then
  pub copy_up : dst ≤ src → moved W o (moved W o ws src dst k) (src + k) (dst + k) n ≡ moved W o ws src dst (k + n)
  unfolding moved
  copy_up le =
      splice_eq W pos o (moved W o ws src dst k) (dst + k) n (λ i. row W o (moved W o ws src dst k) (src + k + i)) (λ i. row W o ws (src + (k + i)))
      (λ i l. spliced_past W pos o ws dst k (λ i. row W o ws (src + i)) (omega arith) (src + k + i) (omega arith) (omega arith) ∙ ap (row W o ws) (add_assoc src k i))
      ∙ splice_up W pos o ws dst k n (λ i. row W o ws (src + i))

  -- downward, where the destination is not below the source: the last n, and then the k before them
  pub copy_down : src ≤ dst → moved W o (moved W o ws (src + k) (dst + k) n) src dst k ≡ moved W o ws src dst (k + n)
  unfolding moved
  copy_down le =
      splice_eq W pos o (moved W o ws (src + k) (dst + k) n) dst k (λ i. row W o (moved W o ws (src + k) (dst + k) n) (src + i)) (λ i. row W o ws (src + i))
      (λ i l. spliced_before W pos o ws (dst + k) n (λ i. row W o ws (src + k + i)) (omega arith) (src + i) (omega arith))
      ∙ ap (λ (xs : List ℕ). spliced W o xs dst k (λ i. row W o ws (src + i)))
      (splice_eq W pos o ws (dst + k) n (λ i. row W o ws (src + k + i)) (λ i. row W o ws (src + (k + i))) (λ i l. ap (row W o ws) (add_assoc src k i)))
      ∙ splice_down W pos o ws dst k n (λ i. row W o ws (src + i))
