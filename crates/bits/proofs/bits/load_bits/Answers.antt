-- `load_bits`: the first piece and the rest, joined. Assumes nothing.
use native.Mathlib.Omega.{arith}
use mathlib.Core.Path.{◌≡◌, ap, ◌∙◌}
use Prim.Native.Nat.{◌+◌, ◌-◌, ◌*◌}
use Rattle.std.specs.Prelude.{map}
use Rattle.rules.specs.Fields.{load_of}
use Rattle.laws.proofs.Fields.Cuts.{joined, load_fits, load_rest}
use Rattle.bits.proofs.bits.load_bits.Goals as goal

pub returns : goal.returns
returns g c =
    let a = c.args in
    let W = g.row.W in
    let pos = g.met.T.Word.some in
    let ws = map g.T.Word.value a.words.now in
    let r = c.across-cut.result in
    let m = r.whole * W + r.last in
    let k = c.across-cut.ensures.all in
    let rest : a.len - r.first ≡ m = omega arith in
    load_fits W pos a.order a.significance ws (a.word * W + a.head.0) a.len
    (c.join.ensures ∙ ap (joined a.significance c.piece_at-a.result r.first c.load_rest-b.result) rest
    ∙ load_rest W pos a.order a.significance ws a.word a.head.0 r.first m (c.across-cut.ensures.edge (omega arith)) (c.piece_at-a.ensures.0 a.significance) c.load_rest-b.ensures.0
    ∙ ap (load_of W a.order a.significance ws (a.word * W + a.head.0)) (omega arith))
