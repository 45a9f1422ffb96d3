-- `ones`: all ones of the word moved down to n of them, then up to the position. Assumes nothing.
use native.Mathlib.Omega.{arith}
use Rattle.rules.proofs.Bits.Masks.{ones_moved}
use Rattle.laws.proofs.Words.Typed.{all_ones}
use Rattle.word.proofs.masks.ones.Goals as goal

pub returns : goal.returns
returns g c =
    let a = c.args in
    let w = g.T.Word in
    rw (c.number.ensures, c.shl-moved.ensures, c.shr-low.ensures, c.of.ensures, all_ones w.WIDTH g.row.W g.met.T.Word.wide) (ones_moved g.row.W a.lowest.0 a.n (omega arith))
