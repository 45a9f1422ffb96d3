-- `swap::whole` lends the words from a word's start on; each side gets the words of the other's row.
use mathlib.Core.Path.{ap, ◌∙◌}
use Prim.Native.Nat.{ℕ, ◌+◌, ◌-◌, ◌*◌, ◌/◌, ◌≤◌}
use native.Mathlib.Nat.{add-mul, zero-mul, div-add-mod', le_of_mul-le-mul_right}
use native.Mathlib.Omega.{arith}
use lib.ListN.{length, get_or}
use Rattle.std.specs.Prelude.{List, map}
use Rattle.std.proofs.lemmas.List.{length-map}
use Rattle.rules.specs.Positions.{row}
use Rattle.laws.proofs.Rows.Part.{none_put}
use Rattle.laws.proofs.Words.Wholes.{lent_row, part_plain}
use Rattle.laws.proofs.Words.Typed.{row_below, mid_map, lent_length, lent_map}
use Rattle.swap.proofs.whole.Goals as goal

pub returns-then-k-eq0 : goal.returns-then-k-eq0
returns-then-k-eq0 g c =
    let a = c.args in
    let w = g.row.W in
    let m = g.met.T.Word in
    let v = g.T.Word.value in
    let ws = map v a.left.now in
    let vs = map v a.right.now in
    λ o. (
      none_put w m.some o ws a.d (λ i. row w o vs (a.s + i)) (a.k * w) (grind (arith, zero-mul w)) (row_below v w m.below a.left.now),
      none_put w m.some o vs a.s (λ i. row w o ws (a.d + i)) (a.k * w) (grind (arith, zero-mul w)) (row_below v w m.below a.right.now),
    )

pub returns : goal.returns
returns g c =
    let a = c.args in
    let w = g.row.W in
    let m = g.met.T.Word in
    let v = g.T.Word.value in
    let l = map v a.left.now in
    let r = map v a.right.now in
    let i = a.d / w in
    let b = a.s / w in
    let k = a.k in
    let z = c.requires.0 (omega arith) in
    let ed = div-add-mod' a.d w in
    let es = div-add-mod' a.s w in
    let room : i + k ≤ length a.left.now = le_of_mul-le-mul_right (omega (arith, add-mul i k w, ed, z)) m.some in
    let space : b + k ≤ length a.right.now = le_of_mul-le-mul_right (omega (arith, add-mul b k w, es, z)) m.some in
    let wl = row_below v w m.below a.left.now in
    let wr = row_below v w m.below a.right.now in
    let swap = c.swap_with_slice in
    let left = swap.new.self in
    let right = swap.new.other in
    λ o. (
      lent_map v i (i + k - i) a.left.now left
          ∙ lent_row w m.some o l (map v left) i (i + k - i) k a.d (omega arith) (omega (arith, ed, z)) (rw length-map room) wl
          (lent_length v i (i + k - i) a.left.now left swap.ensures.len) r a.s
          (λ j n. ap (λ (x : List ℕ). get_or x j 0) (ap (map v) swap.ensures.after ∙ mid_map v b (b + k - b) a.right.now)
          ∙ part_plain w o r b a.s wr (omega (arith, es, z)) (b + k - b) j (omega arith)),
      lent_map v b (b + k - b) a.right.now right
          ∙ lent_row w m.some o r (map v right) b (b + k - b) k a.s (omega arith) (omega (arith, es, z)) (rw length-map space) wr
          (lent_length v b (b + k - b) a.right.now right swap.ensures.other_len) l a.d
          (λ j n. ap (λ (x : List ℕ). get_or x j 0) (ap (map v) swap.ensures.other_after ∙ mid_map v i (i + k - i) a.left.now)
          ∙ part_plain w o l i a.d wl (omega (arith, ed, z)) (i + k - i) j (omega arith)),
    )
