-- `swap::blocks`: the first i bits are exchanged.
use mathlib.Core.Path.{refl}
use Prim.Native.Nat.{◌+◌}
use native.Mathlib.Omega.{arith}
use Rattle.std.specs.Prelude.{map}
use Rattle.std.proofs.lemmas.List.{length-map}
use Rattle.rules.specs.Positions.{row}
use Rattle.laws.proofs.Rows.Part.{none_put}
use Rattle.laws.proofs.Rows.Scratch.{step_swap}
use Rattle.laws.proofs.Words.Typed.{row_below}
use Rattle.swap.proofs.blocks.Goals as goal

pub loop-i-init : goal.loop-i-init
loop-i-init g c =
    let a = c.args in
    let w = g.row.W in
    let m = g.met.T.Word in
    let v = g.T.Word.value in
    let ws = map v a.left.now in
    let vs = map v a.right.now in (
      omega arith,
      none_put w m.some a.order ws a.d (λ j. row w a.order vs (a.s + j)) 0 refl (row_below v w m.below a.left.now),
      none_put w m.some a.order vs a.s (λ j. row w a.order ws (a.d + j)) 0 refl (row_below v w m.below a.right.now),
    )

pub loop-i-preserved : goal.loop-i-preserved
loop-i-preserved g c =
    let a = c.args in
    let w = g.row.W in
    let pos = g.met.T.Word.some in
    let ws = map g.T.Word.value a.left.now in
    let vs = map g.T.Word.value a.right.now in
    let i = c.loop-i.i in
    let n = c.least-n.result in
    let so = c.loop-i.invariant in (
      omega arith,
      step_swap w pos a.order ws vs a.d a.s i n (i + n) (λ j. row w a.order ws (a.d + j)) refl (rw length-map (omega arith)) so.1 so.2 c.block.ensures.0,
      step_swap w pos a.order vs ws a.s a.d i n (i + n) (λ j. row w a.order vs (a.s + j)) refl (rw length-map (omega arith)) so.2 so.1 c.block.ensures.1,
    )
