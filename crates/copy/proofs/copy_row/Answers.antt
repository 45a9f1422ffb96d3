-- `copy::copy_row` is three splices, each of which goes on where the one before stopped.
use mathlib.Core.Path.{refl, ap}
use Prim.Native.Nat.{ℕ, ◌+◌, ◌-◌, ◌*◌, ◌/◌}
use native.Mathlib.Nat.{add_assoc, div-add-mod'}
use native.Mathlib.Omega.{arith}
use Rattle.std.specs.Prelude.{map}
use Rattle.rules.specs.Positions.{row}
use Rattle.laws.proofs.Rows.Part.{grown}
use Rattle.copy.proofs.copy_row.Goals as goal

pub returns : goal.returns
returns g c =
    let w = g.row.W in
    let pos = g.met.T.Word.some in
    let a = c.args in
    let ws = map g.T.Word.value a.words.now in
    let vs = map g.T.Word.value a.source.now in
    let r = c.lead-first.result in
    let k = (a.len - r) / w in
    let from : ℕ → ℕ = λ i. row w a.order vs (a.s + i) in
    grown w pos a.order ws a.d from (r + k * w) (a.len - (r + k * w)) a.len (λ j. row w a.order vs (a.s + (r + k * w) + j)) (omega (arith, div-add-mod' (a.len - r) w))
    (grown w pos a.order ws a.d from r (k * w) (r + k * w) (λ j. row w a.order vs (a.s + r + j)) refl c.first_piece.ensures c.whole.ensures
    (λ j l. ap (row w a.order vs) (add_assoc a.s r j)))
    c.last_piece.ensures (λ j l. ap (row w a.order vs) (add_assoc a.s (r + k * w) j))
