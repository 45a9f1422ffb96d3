-- `copy::plain_words`: below i each word is the source's.
use mathlib.Core.Path.{◌≡◌}
use Prim.Native.Nat.{ℕ, ◌<◌}
use lib.ListN.{get_or}
use Rattle.std.specs.Prelude.{map}
use Rattle.copy.proofs.plain_words.Given as goal

abbrev pub invariant-loop-i : goal.invariant-loop-i
invariant-loop-i g l =
    let v = g.T.Word.value in
    (k : ℕ) → k < l.i → get_or (map v l.words) k 0 ≡ get_or (map v l.source) k 0
