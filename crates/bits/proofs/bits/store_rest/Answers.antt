-- `store_rest`: the whole words stored and then the last piece are the rest of the field stored. Assumes nothing.
use native.Mathlib.Omega.{arith}
use mathlib.Core.Path.{◌≡◌, ap, ap₂, ◌∙◌}
use Prim.Native.Nat.{ℕ, ◌+◌, ◌*◌}
use Rattle.std.specs.Prelude.{map}
use Rattle.rules.specs.Fields.{store_of}
use Rattle.laws.proofs.Fields.Cuts.{first_of_value, first_all, store_last}
use Rattle.bits.proofs.bits.store_rest.Goals as goal

pub returns-then-last-eq0 : goal.returns-then-last-eq0
returns-then-last-eq0 g c =
    let a = c.args in
    let W = g.row.W in
    let ws = map g.T.Word.value a.words.now in
    let e = a.significance in
    let none : a.last ≡ 0 = omega arith in
    let all : c.first_of-a.result ≡ a.v = c.first_of-a.ensures ∙ ap (first_of_value e a.v) none ∙ first_all e a.v in
    c.store_middle.ensures a.order ∙ ap₂ (λ (x y : ℕ). store_of W a.order e ws (a.start * W) x y) (omega arith) all

pub returns : goal.returns
returns g c =
    let a = c.args in
    let W = g.row.W in
    let v = g.T.Word.value in
    let ws = map v a.words.now in
    let e = a.significance in
    let o = a.order in
    store_last W g.met.T.Word.some o e ws a.start a.whole a.last a.v
    (c.store_middle.ensures o ∙ ap (store_of W o e ws (a.start * W) (a.whole * W)) c.first_of-a.ensures)
    (c.put_piece.ensures e ∙ ap (store_of W o e (map v c.store_middle.new.words) ((a.start + a.whole) * W + 0) a.last) c.rest_of-b.ensures)
