-- `eight_at`: the first half and the second, joined. Assumes nothing.
use mathlib.Core.Path.{◌≡◌, ◌∙◌}
use Prim.Native.Nat.{◌*◌}
use lib.Dec.{lit<}
use Rattle.std.specs.Prelude.{map}
use Rattle.rules.specs.declared.Order.{Order}
use Rattle.rules.specs.declared.Order.TheVariants.{Lsb0}
use Rattle.rules.specs.declared.Significance.TheVariants.{Le}
use Rattle.rules.specs.Fields.{load_of}
use Rattle.laws.proofs.Fields.Cuts.{load_fits, load_next}
use Rattle.chunk.proofs.bytes.eight_at.Goals as goal

is : (g : _) (c : goal.After-join g) (o : Order) → (let a = c.args in c.join.result ≡ load_of 8 o Le (map g.T.Word.value a.words.now) (a.at * 8) 64)
is g c o =
    let a = c.args in
    c.join.ensures ∙ load_next 8 (lit< tt) o Le (map g.T.Word.value a.words.now) a.at 4 32 (c.four_at-a.ensures.0 o) (c.four_at-b.ensures.0 o)

pub returns : goal.returns
returns g c = let a = c.args in
    (is g c, (load_fits 8 (lit< tt) Lsb0 Le (map g.T.Word.value a.words.now) (a.at * 8) 64 (is g c Lsb0)).1)
