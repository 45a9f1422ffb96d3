-- `pass_down`: the words passed are f, and the block that stops it is not. Assumes nothing.
use native.Mathlib.Omega.{arith}
use Prim.Native.Nat.{◌-◌}
use Rattle.std.specs.Prelude.{map}
use Rattle.laws.proofs.Searches.Alike.{alike_join, block_alike, block_other}
use Rattle.laws.proofs.Words.Typed.{part_map, part_length}
use Rattle.search.proofs.leaves.pass_down.Goals as goal

pub returns-then-number-ne0 : goal.returns-then-number-ne0
returns-then-number-ne0 g c =
    let a = c.args in
    let i = c.loop-i.i in
    let f = g.T.Word.value a.f in
    let ws = map g.T.Word.value a.words.now in (
      omega arith,
      omega arith,
      c.loop-i.invariant.2,
      λ fits. block_other f ws (i - a.size) i (part_map g.T.Word.value (i - a.size) i a.words.now) (part_length (i - a.size) i a.words.now (omega arith) (omega arith)) c.gather.ensures (rw c.number.ensures at c.if-number-ne0.true),
    )

pub loop-i-preserved : goal.loop-i-preserved
loop-i-preserved g c =
    let a = c.args in
    let i = c.loop-i.i in
    let f = g.T.Word.value a.f in
    let ws = map g.T.Word.value a.words.now in
    (omega arith, omega arith, alike_join f ws (i - a.size) i a.e (block_alike f ws (i - a.size) i (part_map g.T.Word.value (i - a.size) i a.words.now) (part_length (i - a.size) i a.words.now (omega arith) (omega arith)) c.gather.ensures (rw c.number.ensures at c.if-number-ne0.false)) c.loop-i.invariant.2)
