-- `load_middle`: a load from a part is a load from the words. Assumes nothing.
use native.Mathlib.Omega.{arith}
use native.Mathlib.Nat.{mul-le-mul_right}
use mathlib.Core.Path.{ap, ◌∙◌}
use Prim.Native.Nat.{ℕ, ◌+◌, ◌-◌, ◌*◌}
use lib.ListN.{take, drop}
use Rattle.std.specs.Prelude.{map}
use Rattle.rules.specs.Fields.{load_of}
use Rattle.laws.proofs.Words.Wholes.{load_part}
use Rattle.bits.proofs.parts.load_middle.Goals as goal

pub returns : goal.returns
returns g c =
    let a = c.args in
    let W = g.row.W in
    let ws = map g.T.Word.value a.words.now in
    let l = a.start + a.whole - a.start in
    λ o. rw c.part.ensures.0 at (c.load_whole.ensures o) ∙ ap (λ (n : ℕ). load_of W o a.significance (take l (drop a.start ws)) 0 (n * W)) (omega (arith, c.part.ensures.1))
    ∙ load_part W g.met.T.Word.some o a.significance ws a.start l (a.whole * W) (mul-le-mul_right W (omega arith))
