-- `move_up` is three moves, each of which goes on where the one before stopped.
use mathlib.Core.Path.{refl, ◌∙◌}
use mathlib.Core.Logic.{inl, inr, ⊎_elim}
use Prim.Native.Nat.{◌+◌, ◌-◌, ◌*◌, ◌/◌, ◌≤◌}
use native.Mathlib.Nat.{div-mul-le_self}
use native.Mathlib.Omega.{arith}
use lib.ListN.{length}
use Rattle.std.specs.Prelude.{map}
use Rattle.std.proofs.lemmas.List.{length-map}
use Rattle.laws.proofs.Rows.Scratch.{step_up}
use Rattle.laws.proofs.Rows.InPlace.{moved_at}
use Rattle.within.proofs.move_up.Goals as goal

pub returns : goal.returns
returns g c =
    let a = c.args in
    let W = g.row.W in
    let pos = g.met.T.Word.some in
    let ws = map g.T.Word.value a.words.now in
    let r = c.lead-first.result in
    let k = (a.n - r) / W in
    let most = r + k * W in
    let within = div-mul-le_self (a.n - r) W in
    let reads : a.from + a.n ≤ length ws * W = rw length-map c.requires.0 in
    let fits : a.to + a.n ≤ length ws * W = rw length-map c.requires.1 in
    step_up W pos a.order ws a.from a.to most (a.n - most) (omega arith) (omega arith) (⊎_elim (λ l. inl l) (λ l. inr (omega arith)) c.requires.2)
    (step_up W pos a.order ws a.from a.to r (k * W) (omega arith) (omega arith) (⊎_elim (λ l. inl l) (λ l. inr (omega arith)) c.requires.2) c.first_piece.ensures c.whole_up.ensures)
    c.last_piece.ensures
    ∙ moved_at W a.order ws refl refl (omega arith)
