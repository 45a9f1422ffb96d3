-- `whole_down` moves the words of the row that belong at a word's start.
use mathlib.Core.Path.{◌≡◌, refl, sym, ap, ◌∙◌}
use Prim.Native.Nat.{ℕ, ◌+◌, ◌*◌, ◌/◌}
use native.Mathlib.Nat.{div-add-mod', zero-mul}
use native.Mathlib.Omega.{arith}
use Rattle.laws.proofs.Words.Typed.{row_below}
use Rattle.laws.proofs.Rows.Scratch.{moved_none}
use Rattle.laws.proofs.Rows.InPlace.{moved_at}
use Rattle.within.proofs.whole_down.Goals as goal

pub returns-then-k-eq0 : goal.returns-then-k-eq0
returns-then-k-eq0 g c =
    let a = c.args in
    let W = g.row.W in
    let m = g.met.T.Word in
    moved_none W m.some a.order _ a.from a.to (a.k * W) (rw c.if-k-eq0.true (zero-mul W)) (row_below g.T.Word.value W m.below a.words.now)

pub returns-then-h-eq0 : goal.returns-then-h-eq0
returns-then-h-eq0 g c =
    let a = c.args in
    let W = g.row.W in
    let z = c.requires.0 (omega arith) in
    let from : a.from / W * W + 0 ≡ a.from = omega (arith, div-add-mod' a.from W) in
    let to : a.to / W * W ≡ a.to = omega (arith, z, div-add-mod' a.to W) in
    c.plain_down.ensures a.order ∙ moved_at W a.order _ from to refl

pub returns-then-a-b : goal.returns-then-a-b
returns-then-a-b g c =
    let a = c.args in
    let W = g.row.W in
    let z = c.requires.0 (omega arith) in
    let to : a.to / W * W ≡ a.to = omega (arith, z, div-add-mod' a.to W) in
    c.joined_next.ensures ∙ moved_at W a.order _ (div-add-mod' a.from W) (ap (λ (x : ℕ). x * W) (sym c.if-a-b.true) ∙ to) refl

pub returns : goal.returns
returns g c =
    let a = c.args in
    let W = g.row.W in
    let z = c.requires.0 (omega arith) in
    let to : a.to / W * W ≡ a.to = omega (arith, z, div-add-mod' a.to W) in
    c.joined_down.ensures ∙ moved_at W a.order _ (div-add-mod' a.from W) to refl
