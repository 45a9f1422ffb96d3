-- `last_in_row`: the last word's piece settles it, or has none and the rest settles it. Assumes nothing.
use native.Mathlib.Omega.{arith}
use mathlib.Core.Path.{◌≡◌}
use Prim.Native.Nat.{ℕ, ◌+◌, ◌-◌, ◌*◌, ◌/◌, ◌%◌, ◌≤◌, ◌<◌}
use native.Mathlib.Nat.{le-div_iff_mul-le, mul-le-mul_right, add-mul, div-add-mod'}
use Rattle.std.specs.Prelude.{map}
use Rattle.laws.proofs.Searches.RowSearch.{last_sooner, last_at_most, last_further}
use Rattle.search.proofs.backward.last_in_row.Goals as goal

-- the last piece: what is left past the last word's start, and where that is
module _ (W word h n : ℕ) (head : h < W) (past : W < h + n) where
  last : (h + n) % W ≤ n
  last =
      let pos : 0 < W = omega arith in
      let one : 1 ≤ (h + n) / W = (le-div_iff_mul-le pos).1 (omega arith) in
      omega (arith, mul-le-mul_right W one, div-add-mod' (h + n) W)

  parts : n - (h + n) % W + (h + n) % W ≡ n
  parts = omega (arith, last)

  from : (word + (h + n) / W) * W + 0 ≡ word * W + h + (n - (h + n) % W)
  from = omega (arith, last, add-mul word ((h + n) / W) W, div-add-mod' (h + n) W)

pub overflow_add-result : goal.overflow_add-result
overflow_add-result g c = omega (arith, last_at_most _ _ _ c.last_in_word-r.ensures)

pub returns-then-r-gt0 : goal.returns-then-r-gt0
returns-then-r-gt0 g c =
    let W = g.row.W in
    let s = c.args.span in
    let ws = map g.T.Word.value c.args.words.now in
    let t = (s.head.0 + s.len) % W in
    last_sooner W s.order ws c.args.sought (s.word * W + s.head.0) s.len (s.len - t) t ((s.word + (s.head.0 + s.len) / W) * W + 0)
    (parts W s.word s.head.0 s.len (omega arith) (omega arith)) (from W s.word s.head.0 s.len (omega arith) (omega arith)) c.last_in_word-r.ensures c.if-r-gt0.true

pub returns-then-sought : goal.returns-then-sought
returns-then-sought g c =
    let W = g.row.W in
    let s = c.args.span in
    let ws = map g.T.Word.value c.args.words.now in
    let t = (s.head.0 + s.len) % W in
    last_further W s.order ws c.args.sought (s.word * W + s.head.0) s.len (s.len - t) t ((s.word + (s.head.0 + s.len) / W) * W + 0)
    (parts W s.word s.head.0 s.len (omega arith) (omega arith)) (from W s.word s.head.0 s.len (omega arith) (omega arith)) c.last_in_word-r.ensures c.if-r-gt0.false c.if-sought.true c.last_further.ensures

pub returns-else-sought : goal.returns-else-sought
returns-else-sought g c =
    let W = g.row.W in
    let s = c.args.span in
    let ws = map g.T.Word.value c.args.words.now in
    let t = (s.head.0 + s.len) % W in
    last_further W s.order ws c.args.sought (s.word * W + s.head.0) s.len (s.len - t) t ((s.word + (s.head.0 + s.len) / W) * W + 0)
    (parts W s.word s.head.0 s.len (omega arith) (omega arith)) (from W s.word s.head.0 s.len (omega arith) (omega arith)) c.last_in_word-r.ensures c.if-r-gt0.false c.if-sought.false c.last_further-else-sought.ensures
