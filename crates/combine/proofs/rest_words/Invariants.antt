-- `rest_words`: below the index each word is the operation's, from it on it is the old one.
use mathlib.Core.Path.{◌≡◌}
use Prim.Native.Nat.{ℕ, ◌≤◌, ◌<◌}
use lib.ListN.{get_or}
use Rattle.std.specs.Prelude.{map}
use Rattle.laws.proofs.Words.Combine.{wordwise}
use Rattle.combine.proofs.rest_words.Given as goal

abbrev pub invariant-loop-word : goal.invariant-loop-word
invariant-loop-word g l =
    let number = map g.T.Word.value in
    ((k : ℕ) → k < l.word-index → get_or (number l.words) k 0 ≡ wordwise g.row.W l.operation (get_or (number l.initial.words) k 0) 0)
    × ((k : ℕ) → l.word-index ≤ k → get_or (number l.words) k 0 ≡ get_or (number l.initial.words) k 0)
