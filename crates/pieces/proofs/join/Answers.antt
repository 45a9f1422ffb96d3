-- `join` is `joined`: the part that is moved up and the other have no bit in common, so `|` adds them. Assumes nothing.
use lib.Pow.{shl_exact}
use lib.Bits.{or_shifted}
use native.Mathlib.Omega.{arith}
use Rattle.laws.proofs.Fields.Cuts.{joined}
use Rattle.pieces.proofs.join.Goals as goal

pub returns-in-Le : goal.returns-in-Le
unfolding joined
returns-in-Le c = let a = c.args in
    let p = c.requires in
    rw (c.in-Le.is, shl_exact a.n a.k 64 p.4 (omega arith)) (or_shifted a.b a.k a.a p.3)

pub returns-in-Be : goal.returns-in-Be
unfolding joined
returns-in-Be c = let a = c.args in
    let p = c.requires in
    rw (c.in-Be.is, shl_exact a.k a.n 64 p.3 (omega arith)) (or_shifted a.a a.n a.b p.4)
