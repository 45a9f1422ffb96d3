-- `swap::in_place` is three exchanges, each of which goes on where the one before stopped.
use mathlib.Core.Path.{refl}
use Prim.Native.Nat.{ℕ, ◌+◌, ◌-◌, ◌*◌, ◌/◌}
use native.Mathlib.Nat.{div-add-mod'}
use native.Mathlib.Omega.{arith}
use Rattle.std.specs.Prelude.{map}
use Rattle.std.proofs.lemmas.List.{length-map}
use Rattle.rules.specs.Positions.{row}
use Rattle.laws.proofs.Rows.Scratch.{step_swap}
use Rattle.swap.proofs.in_place.Goals as goal

pub returns : goal.returns
returns g c =
    let a = c.args in
    let o = a.order in
    let w = g.row.W in
    let pos = g.met.T.Word.some in
    let ws = map g.T.Word.value a.left.now in
    let vs = map g.T.Word.value a.right.now in
    let r = c.lead-first.result in
    let k = (a.len - r) / w in
    let e = div-add-mod' (a.len - r) w in
    let mine : ℕ → ℕ = λ j. row w o ws (a.d + j) in
    let yours : ℕ → ℕ = λ j. row w o vs (a.s + j) in
    let left =
    step_swap w pos o ws vs a.d a.s r (k * w) (r + k * w) mine refl (rw length-map (omega (arith, e))) c.piece.ensures.0 c.piece.ensures.1
    (c.whole.ensures o).0
    in
    let right =
    step_swap w pos o vs ws a.s a.d r (k * w) (r + k * w) yours refl (rw length-map (omega (arith, e))) c.piece.ensures.1 c.piece.ensures.0
    (c.whole.ensures o).1
    in (
      step_swap w pos o ws vs a.d a.s (r + k * w) (a.len - (r + k * w)) a.len mine (omega (arith, e)) (rw length-map (omega arith)) left right
          c.piece-2.ensures.0,
      step_swap w pos o vs ws a.s a.d (r + k * w) (a.len - (r + k * w)) a.len yours (omega (arith, e)) (rw length-map (omega arith)) right left
          c.piece-2.ensures.1,
    )
