-- `rest` is three splices, each of which goes on where the one before stopped.
use mathlib.Core.Path.{refl}
use Prim.Native.Nat.{◌+◌, ◌-◌, ◌*◌, ◌/◌}
use native.Mathlib.Nat.{div-mul-le_self}
use native.Mathlib.Omega.{arith}
use Rattle.std.specs.Prelude.{map}
use Rattle.std.proofs.lemmas.List.{length-map}
use Rattle.rules.specs.Positions.{row}
use Rattle.rules.specs.Rows.{applied}
use Rattle.laws.proofs.Words.Typed.{row_below}
use Rattle.laws.proofs.Rows.Part.{none_put}
use Rattle.laws.proofs.Words.Combine.{combined_on}
use Rattle.boolean.proofs.rest.Goals as goal

pub returns-then-len-eq0 : goal.returns-then-len-eq0
returns-then-len-eq0 g c =
    let a = c.args in
    let W = g.row.W in
    let w = g.T.Word in
    let m = g.met.T.Word in
    let ws = map w.value a.words.now in
    none_put W m.some a.order ws a.d (λ i. applied a.operation (row W a.order ws (a.d + i)) 0) a.len c.if-len-eq0.true (row_below w.value W m.below a.words.now)

pub returns : goal.returns
returns g c =
    let a = c.args in
    let W = g.row.W in
    let pos = g.met.T.Word.some in
    let ws = map g.T.Word.value a.words.now in
    let r = c.lead-first.result in
    let k = (a.len - r) / W in
    combined_on W pos a.order ws a.d a.operation (λ _. 0) (r + k * W) (a.len - (r + k * W)) a.len (λ _. 0) (omega (arith, div-mul-le_self (a.len - r) W)) (rw length-map c.requires.0)
    (combined_on W pos a.order ws a.d a.operation (λ _. 0) r (k * W) (r + k * W) (λ _. 0) refl (rw length-map (omega (arith, div-mul-le_self (a.len - r) W))) c.none_piece.ensures c.rest_whole.ensures (λ j l. refl))
    c.none_piece-2.ensures (λ j l. refl)
