-- `rest_words`: below the index each word is the operation's, from it on it is the old one.
use mathlib.Core.Path.{sym, ap₂, ◌∙◌}
use native.Mathlib.Omega.{arith}
use native.Mathlib.Nat.{zero-mod}
use lib.ListN.{get_or}
use Rattle.std.specs.Prelude.{map}
use Rattle.std.proofs.lemmas.List.{get_or-map}
use Rattle.laws.proofs.Rows.Filled.{words_filled}
use Rattle.laws.proofs.Words.Combine.{wordwise}
use Rattle.combine.proofs.rest_words.Goals as goal

pub loop-word-preserved : goal.loop-word-preserved
loop-word-preserved g c =
    let w = g.T.Word in
    let l = c.loop-word in
    let i = l.word-index in
    let old = map w.value c.args.words.now in
    words_filled w.value l.words i _ (λ k. wordwise g.row.W c.args.operation (get_or old k 0) 0) old (omega arith) l.invariant
    (c.apply.ensures ∙ ap₂ (wordwise g.row.W c.args.operation) (sym (get_or-map w.value l.words i _ 0 (omega arith)) ∙ l.invariant.1 i (omega arith)) (c.of.ensures ∙ zero-mod _))
