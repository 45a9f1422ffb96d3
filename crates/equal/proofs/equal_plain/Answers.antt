-- `equal_plain`: the words passed agree; a block that differs, or the last words, decide.
use mathlib.Core.Path.{◌≡◌, ap, ◌∙◌}
use Prim.Native.Nat.{ℕ, ◌+◌, ◌-◌, ◌/◌}
use native.Mathlib.Omega.{arith}
use lib.ListN.{length, length-drop, get_or, take, drop}
use lib.Seq.{length-take-le}
use Rattle.std.specs.Prelude.{map}
use Rattle.laws.proofs.Words.Agree.{agree_on, agree_off, tells_no, tells_zero, differs_on}
use Rattle.equal.proofs.Blocks.{rest_word, block_word, rest_after}
use Rattle.equal.proofs.equal_plain.Goals as goal

pub returns-then-number-ne0 : goal.returns-then-number-ne0
returns-then-number-ne0 g c =
    let a = c.args in
    let v = g.T.Word.value in
    let size = 4096 / g.row.W in
    let i = length a.left.now - length c.loop-ours.ours.now in
    let so = c.loop-ours.invariant in
    let b : ℕ → ℕ = λ j. get_or (map v a.left.now) j 0 in
    let d : ℕ → ℕ = λ j. get_or (map v a.right.now) j 0 in
    let len = length-take-le size c.loop-ours.ours.now (omega arith) in
    tells_no (length a.left.now) b d
    (λ all. c.if-number-ne0.true (c.number.ensures ∙ c.differ_plain.ensures.all_none
    (agree_off i _ (length a.left.now) b d _ _ (λ j l. block_word v a.left.now i so.0 size j (omega (arith, len)))
    (λ j l. block_word v a.right.now i so.1 size j (omega (arith, len))) (omega (arith, len)) all)))

pub loop-ours-preserved : goal.loop-ours-preserved
loop-ours-preserved g c =
    let a = c.args in
    let v = g.T.Word.value in
    let size = 4096 / g.row.W in
    let n = length a.left.now in
    let ours = length c.loop-ours.ours.now in
    let i = n - ours in
    let so = c.loop-ours.invariant in
    let b : ℕ → ℕ = λ j. get_or (map v a.left.now) j 0 in
    let d : ℕ → ℕ = λ j. get_or (map v a.right.now) j 0 in
    let len = length-take-le size c.loop-ours.ours.now (omega arith) in
    let mine = rest_after v a.left.now i so.0 size in
    let left = ap length mine ∙ length-drop (i + size) a.left.now in
    let on : i + size ≡ n - length (take (ours - size) (drop size c.loop-ours.ours.now)) = omega (arith, left) in (
      mine ∙ ap (λ (m : ℕ). drop m a.left.now) on,
      rest_after v a.right.now i so.1 size ∙ ap (λ (m : ℕ). drop m a.right.now) on,
      omega (arith, left),
      agree_on i _ _ b d _ _ (λ j l. block_word v a.left.now i so.0 size j (omega (arith, len))) (λ j l. block_word v a.right.now i so.1 size j (omega (arith, len)))
          (ap (λ (m : ℕ). i + m) len ∙ on) so.3 (c.differ_plain.ensures.none_all (rw c.number.ensures at c.if-number-ne0.false)),
    )

pub returns : goal.returns
returns g c =
    let a = c.args in
    let v = g.T.Word.value in
    let n = length a.left.now in
    let ours = length c.loop-ours.ours.now in
    let so = c.loop-ours.invariant in
    let i = n - ours in
    let b : ℕ → ℕ = λ j. get_or (map v a.left.now) j 0 in
    let d : ℕ → ℕ = λ j. get_or (map v a.right.now) j 0 in
    rw c.number-2.ensures
    (tells_zero _ n b d (differs_on i ours n b d _ _ (λ j l. rest_word v a.left.now i so.0 j) (λ j l. rest_word v a.right.now i so.1 j) (omega arith) so.3 _ c.differ_plain-2.ensures))
