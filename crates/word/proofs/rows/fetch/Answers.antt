-- `fetch` brings bits of a row to other indexes: from the first word moved up, from one word as it stands or moved down, or from two joined.
use native.Mathlib.Omega.{arith}
use Rattle.std.specs.Prelude.{map}
use Rattle.laws.proofs.Words.Moves.{fetch_up, fetch_same, fetch_down, fetch_over}
use Rattle.laws.proofs.Words.Typed.{row_below}
use Rattle.word.proofs.rows.fetch.Goals as goal

pub returns-then-s-h : goal.returns-then-s-h
returns-then-s-h g c =
    let a = c.args in
    let w = g.T.Word in
    fetch_up g.row.W a.order (map w.value a.source.now) a.s a.head.0 a.n (omega arith) (omega arith) (rw c.read.ensures at c.up.ensures)

pub returns-then-g-eq0 : goal.returns-then-g-eq0
returns-then-g-eq0 g c =
    let a = c.args in
    let w = g.T.Word in
    fetch_same g.row.W a.order (map w.value a.source.now) a.s a.head.0 a.n (omega arith) (omega arith) (omega arith) c.read-then-g-eq0.ensures

pub returns-then-g-h : goal.returns-then-g-h
returns-then-g-h g c =
    let a = c.args in
    let w = g.T.Word in
    fetch_down g.row.W a.order (map w.value a.source.now) a.s a.head.0 a.n (omega arith) (omega arith) (omega arith) (rw c.read-then-g-h.ensures at c.down.ensures)

pub returns : goal.returns
returns g c =
    let a = c.args in
    let w = g.T.Word in
    let m = g.met.T.Word in
    fetch_over g.row.W a.order (map w.value a.source.now) a.s a.head.0 a.n (omega arith) (omega arith) m.some
    (row_below w.value g.row.W m.below a.source.now) (rw c.read-3.ensures at (rw c.read-2.ensures at c.joined.ensures))
