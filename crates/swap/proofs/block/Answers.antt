-- `swap::block` copies the right side to the left, and to the right what the left side was.
use Prim.Native.Nat.{◌%◌}
use native.Mathlib.Omega.{arith}
use Rattle.std.specs.Prelude.{map}
use Rattle.std.proofs.lemmas.List.{length-map}
use Rattle.laws.proofs.Rows.Scratch.{from_scratch}
use Rattle.swap.proofs.block.Goals as goal

pub returns : goal.returns
returns g c =
    let a = c.args in
    let w = g.row.W in
    let v = g.T.Word.value in (
      c.copy_row-2.ensures,
      from_scratch w g.met.T.Word.some a.order (map v a.scratch.now) (map v a.left.now) (map v a.right.now) (a.d % w) a.d a.s a.n (rw length-map (omega arith))
          c.copy_row.ensures c.copy_row-3.ensures,
    )
