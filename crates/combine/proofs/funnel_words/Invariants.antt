-- `funnel_words`: below i each word is the step's, from i on it is the old one.
use mathlib.Core.Path.{◌≡◌}
use Prim.Native.Nat.{ℕ, ◌+◌, ◌≤◌, ◌<◌}
use lib.ListN.{get_or}
use Rattle.std.specs.Prelude.{map}
use Rattle.laws.proofs.Words.Funnel.{funneled}
use Rattle.combine.proofs.funnel_words.Given as goal

abbrev pub invariant-loop-i : goal.invariant-loop-i
invariant-loop-i g l =
    let v = g.T.Word.value in
    let number = map v in
    (f : ℕ → ℕ → ℕ) → ((a b r : _) → goal.F-post g l.step a b r → v r ≡ f (v a) (v b))
    → ((k : ℕ) → k < l.i → get_or (number l.words) k 0 ≡ f (get_or (number l.initial.words) k 0) (funneled g.row.W l.order l.head.0 (get_or (number l.right) k 0) (get_or (number l.right) (k + 1) 0)))
    × ((k : ℕ) → l.i ≤ k → get_or (number l.words) k 0 ≡ get_or (number l.initial.words) k 0)
