-- `pass_up`: the words passed are f, and the block that stops it is not. Assumes nothing.
use native.Mathlib.Omega.{arith}
use Prim.Native.Nat.{◌+◌}
use Rattle.std.specs.Prelude.{map}
use Rattle.laws.proofs.Searches.Alike.{alike_join, block_alike, block_other}
use Rattle.laws.proofs.Words.Typed.{part_map, part_length}
use Rattle.search.proofs.leaves.pass_up.Goals as goal

pub returns-then-number-ne0 : goal.returns-then-number-ne0
returns-then-number-ne0 g c =
    let a = c.args in
    let i = c.loop-i.i in
    let f = g.T.Word.value a.f in
    let ws = map g.T.Word.value a.words.now in (
      omega arith,
      omega arith,
      c.loop-i.invariant.2,
      λ fits. block_other f ws i (i + a.size) (part_map g.T.Word.value i (i + a.size) a.words.now) (part_length i (i + a.size) a.words.now (omega arith) (omega arith)) c.gather.ensures (rw c.number.ensures at c.if-number-ne0.true),
    )

pub loop-i-preserved : goal.loop-i-preserved
loop-i-preserved g c =
    let a = c.args in
    let i = c.loop-i.i in
    let f = g.T.Word.value a.f in
    let ws = map g.T.Word.value a.words.now in
    (omega arith, omega arith, alike_join f ws a.a i (i + a.size) c.loop-i.invariant.2 (block_alike f ws i (i + a.size) (part_map g.T.Word.value i (i + a.size) a.words.now) (part_length i (i + a.size) a.words.now (omega arith) (omega arith)) c.gather.ensures (rw c.number.ensures at c.if-number-ne0.false)))
