-- `funnel_words`: below i each word is the step's, from i on it is the old one.
use mathlib.Core.Path.{sym, ap₂, ◌∙◌}
use Prim.Native.Nat.{◌+◌}
use native.Mathlib.Omega.{arith}
use lib.ListN.{get_or}
use Rattle.std.specs.Prelude.{map}
use Rattle.std.proofs.lemmas.List.{get_or-map}
use Rattle.laws.proofs.Words.Typed.{number_read}
use Rattle.laws.proofs.Words.Funnel.{funneled}
use Rattle.laws.proofs.Rows.Filled.{words_filled}
use Rattle.combine.proofs.funnel_words.Goals as goal

pub loop-i-preserved : goal.loop-i-preserved
loop-i-preserved g c f so =
    let a = c.args in
    let w = g.T.Word in
    let l = c.loop-i in
    let old = map w.value a.words.now in
    let right = map w.value a.right.now in
    let before = l.invariant f so in
    words_filled w.value l.words l.i _ (λ k. f (get_or old k 0) (funneled g.row.W a.order a.head.0 (get_or right k 0) (get_or right (k + 1) 0))) old (omega arith) before
    (so _ _ _ c.step.ensures
    ∙ ap₂ f (sym (get_or-map w.value l.words l.i _ 0 (omega arith)) ∙ before.1 l.i (omega arith))
    (c.joined-v.ensures
    ∙ ap₂ (funneled g.row.W a.order a.head.0) (number_read w.value a.right.now l.i (omega arith) c.index-right-i.is) (number_read w.value a.right.now (l.i + 1) (omega arith) c.index-right-i-in-loop-i.is)))
