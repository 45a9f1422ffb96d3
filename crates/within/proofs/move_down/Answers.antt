-- `move_down` is three moves, each of which ends where the one before began.
use mathlib.Core.Path.{refl, ◌∙◌}
use Prim.Native.Nat.{◌+◌, ◌-◌, ◌*◌, ◌/◌, ◌≤◌}
use native.Mathlib.Nat.{div-mul-le_self}
use native.Mathlib.Omega.{arith}
use lib.ListN.{length}
use Rattle.std.specs.Prelude.{map}
use Rattle.std.proofs.lemmas.List.{length-map}
use Rattle.laws.proofs.Rows.Scratch.{step_down}
use Rattle.laws.proofs.Rows.InPlace.{moved_at}
use Rattle.within.proofs.move_down.Goals as goal

pub returns : goal.returns
returns g c =
    let a = c.args in
    let W = g.row.W in
    let pos = g.met.T.Word.some in
    let ws = map g.T.Word.value a.words.now in
    let r = c.lead-first.result in
    let k = (a.n - r) / W in
    let rest = a.n - (r + k * W) in
    let within = div-mul-le_self (a.n - r) W in
    let reads : a.from + a.n ≤ length ws * W = rw length-map c.requires.0 in
    let fits : a.to + a.n ≤ length ws * W = rw length-map c.requires.1 in
    step_down W pos a.order ws a.from a.to r (k * W + rest) (omega arith) (omega arith) (omega arith)
    (step_down W pos a.order ws (a.from + r) (a.to + r) (k * W) rest (omega arith) (omega arith) (omega arith)
    (c.last_piece.ensures ∙ moved_at W a.order ws (omega arith) (omega arith) refl) c.whole_down.ensures)
    c.first_piece.ensures
    ∙ moved_at W a.order ws refl refl (omega arith)
