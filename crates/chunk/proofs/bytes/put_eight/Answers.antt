-- `put_eight`: the first half stored, and then the second. Assumes nothing.
use mathlib.Core.Path.{ap, ◌∙◌}
use Prim.Native.Nat.{◌+◌, ◌*◌}
use lib.Dec.{lit<}
use Rattle.std.specs.Prelude.{map}
use Rattle.rules.specs.Fields.{store_of}
use Rattle.laws.proofs.Fields.Cuts.{store_next}
use Rattle.chunk.proofs.bytes.put_eight.Goals as goal

pub returns : goal.returns
returns g c = let a = c.args in
    let e = a.significance in
    λ o. store_next 8 (lit< tt) o e (map g.T.Word.value a.words.now) a.at 4 32 a.v
    (c.put_four.ensures o ∙ ap (store_of 8 o e (map g.T.Word.value a.words.now) (a.at * 8) 32) c.first_of-a.ensures)
    (c.put_four-2.ensures o ∙ ap (store_of 8 o e (map g.T.Word.value c.put_four.new.words) ((a.at + 4) * 8) 32) c.rest_of-b.ensures)
