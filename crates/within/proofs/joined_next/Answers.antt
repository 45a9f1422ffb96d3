-- `joined_next`: all but the first i - 1 words are moved; a word more is joined of the one before it and itself, and neither was written.
use mathlib.Core.Path.{◌≡◌, ap, ap₂, ◌∙◌}
use Prim.Native.Nat.{ℕ, ◌+◌, ◌-◌, ◌*◌}
use native.Mathlib.Nat.{zero-mul}
use native.Mathlib.Omega.{arith}
use lib.ListN.{get_or, set}
use Rattle.std.specs.Prelude.{map}
use Rattle.laws.proofs.Words.Typed.{row_below, number_read}
use Rattle.laws.proofs.Words.Funnel.{funneled}
use Rattle.laws.proofs.Words.Moves.{from_funnel}
use Rattle.laws.proofs.Rows.Scratch.{moved_none}
use Rattle.laws.proofs.Rows.InPlace.{stored_down}
use Rattle.within.proofs.joined_next.Goals as goal

pub loop-i-init : goal.loop-i-init
loop-i-init g c =
    let a = c.args in
    let W = g.row.W in
    let m = g.met.T.Word in
    moved_none W m.some a.order _ _ _ ((a.k - (a.k + 1 - 1)) * W) (ap (λ (x : ℕ). x * W) (omega arith) ∙ zero-mul W) (row_below g.T.Word.value W m.below a.words.now)

pub loop-i-preserved : goal.loop-i-preserved
loop-i-preserved g c =
    let a = c.args in
    let v = g.T.Word.value in
    let words = c.loop-i.words in
    let i = c.loop-i.i - 1 - 1 in
    let here : a.b + (c.loop-i.i - 1) ≡ a.b + 1 + i = omega arith in
    let one-before : a.b + (c.loop-i.i - 1) - 1 ≡ a.b + i = omega arith in
    let next : a.b + (c.loop-i.i - 1) ≡ a.b + i + 1 = omega arith in
    ap (λ (x : ℕ). map v (set words x c.joined.result)) here
    ∙ stored_down v g.row.W g.met.T.Word.some a.order a.words.now words (a.b + 1) a.b a.head.0 1 a.k i c.joined.result (omega arith) (omega arith) (omega arith) c.requires.2
    (λ w. c.joined.ensures
    ∙ ap₂ (funneled g.row.W a.order a.head.0)
    (number_read v words (a.b + (c.loop-i.i - 1) - 1) (omega arith) c.index-words-at.is ∙ ap (λ (x : ℕ). get_or (map v words) x 0) one-before)
    (number_read v words (a.b + (c.loop-i.i - 1)) (omega arith) c.index-words-at-in-loop-i.is ∙ ap (λ (x : ℕ). get_or (map v words) x 0) next)
    ∙ from_funnel g.row.W a.order a.head.0 c.requires.1 (map v words) (a.b + i) w)
    (c.loop-i.i - 1) (omega arith) (omega arith) c.loop-i.invariant
