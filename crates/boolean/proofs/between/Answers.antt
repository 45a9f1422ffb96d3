-- `between` is three splices, each of which goes on where the one before stopped.
use mathlib.Core.Path.{refl, ap}
use Prim.Native.Nat.{◌+◌, ◌-◌, ◌*◌, ◌/◌}
use native.Mathlib.Nat.{add_assoc, div-mul-le_self}
use native.Mathlib.Omega.{arith}
use Rattle.std.specs.Prelude.{map}
use Rattle.std.proofs.lemmas.List.{length-map}
use Rattle.rules.specs.Positions.{row}
use Rattle.laws.proofs.Words.Combine.{combined_on}
use Rattle.boolean.proofs.between.Goals as goal

pub returns : goal.returns
returns g c =
    let a = c.args in
    let W = g.row.W in
    let pos = g.met.T.Word.some in
    let ws = map g.T.Word.value a.words.now in
    let right = row W a.order (map g.T.Word.value a.right.now) in
    let r = c.lead-first.result in
    let k = (a.len - r) / W in
    combined_on W pos a.order ws a.d a.operation (λ j. right (a.s + j)) (r + k * W) (a.len - (r + k * W)) a.len (λ j. right (a.s + (r + k * W) + j)) (omega (arith, div-mul-le_self (a.len - r) W)) (rw length-map c.requires.0)
    (combined_on W pos a.order ws a.d a.operation (λ j. right (a.s + j)) r (k * W) (r + k * W) (λ j. right (a.s + r + j)) refl (rw length-map (omega (arith, div-mul-le_self (a.len - r) W))) c.first_piece.ensures c.whole_words.ensures (λ j l. ap right (add_assoc a.s r j)))
    c.last_piece.ensures (λ j l. ap right (add_assoc a.s (r + k * W) j))
