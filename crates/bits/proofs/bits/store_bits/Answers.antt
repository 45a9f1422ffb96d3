-- `store_bits`: the first piece stored, then the rest. Assumes nothing.
use native.Mathlib.Omega.{arith}
use mathlib.Core.Path.{◌≡◌, ap, ◌∙◌}
use Prim.Native.Nat.{ℕ, ◌+◌, ◌-◌, ◌*◌}
use Rattle.std.specs.Prelude.{map}
use Rattle.rules.specs.Fields.{store_of}
use Rattle.laws.proofs.Fields.Cuts.{first_of_value, store_rest}
use Rattle.bits.proofs.bits.store_bits.Goals as goal

pub returns : goal.returns
returns g c =
    let a = c.args in
    let W = g.row.W in
    let v = g.T.Word.value in
    let ws = map v a.words.now in
    let r = c.across-cut.result in
    let k = c.across-cut.ensures.all in
    let e = a.significance in
    let o = a.order in
    let m = r.whole * W + r.last in
    let rest : a.len - r.first ≡ m = omega arith in
    store_rest W g.met.T.Word.some o e ws a.word a.head.0 r.first m (c.across-cut.ensures.edge (omega arith)) a.v
    (c.put_piece.ensures e ∙ ap (store_of W o e ws (a.word * W + a.head.0) r.first) (c.first_of-a.ensures ∙ ap (first_of_value e a.v) rest))
    (c.store_rest.ensures ∙ ap (store_of W o e (map v c.put_piece.new.words) ((a.word + 1) * W) m) c.rest_of-b.ensures)
    ∙ ap (λ (x : ℕ). store_of W o e ws (a.word * W + a.head.0) x a.v) (omega arith)
