-- `load_rest`: the whole words and the last piece joined are the rest of the field. Assumes nothing.
use native.Mathlib.Omega.{arith}
use mathlib.Core.Path.{◌≡◌, ap, ◌∙◌}
use Prim.Native.Nat.{◌+◌, ◌*◌}
use Rattle.std.specs.Prelude.{map}
use Rattle.rules.specs.Fields.{load_of}
use Rattle.laws.proofs.Fields.Cuts.{load_fits, load_last}
use Rattle.bits.proofs.bits.load_rest.Goals as goal

pub returns-then-last-eq0 : goal.returns-then-last-eq0
returns-then-last-eq0 g c =
    let a = c.args in
    let W = g.row.W in
    let ws = map g.T.Word.value a.words.now in
    let none : a.whole * W ≡ a.whole * W + a.last = omega arith in
    load_fits W g.met.T.Word.some a.order a.significance ws (a.start * W) (a.whole * W + a.last)
    (c.load_middle-a.ensures a.order ∙ ap (load_of W a.order a.significance ws (a.start * W)) none)

pub join-requires : goal.join-requires
join-requires g c =
    let a = c.args in
    let W = g.row.W in
    let middle = load_fits W g.met.T.Word.some a.order a.significance (map g.T.Word.value a.words.now) (a.start * W) (a.whole * W) (c.load_middle-a.ensures a.order) in
    (omega arith, omega arith, omega arith, middle.1, c.piece_at-b.ensures.1)

pub returns : goal.returns
returns g c =
    let a = c.args in
    let W = g.row.W in
    let pos = g.met.T.Word.some in
    let ws = map g.T.Word.value a.words.now in
    load_fits W pos a.order a.significance ws (a.start * W) (a.whole * W + a.last)
    (c.join.ensures
    ∙ load_last W pos a.order a.significance ws a.start a.whole a.last (c.load_middle-a.ensures a.order) (c.piece_at-b.ensures.0 a.significance))
