-- `part`: the numbers of a part are a part of the numbers.
use mathlib.Core.Path.{sym, ap, ◌∙◌}
use Prim.Native.Nat.{◌-◌}
use native.Mathlib.Omega.{arith}
use lib.ListN.{take}
use Rattle.std.specs.List.{take-map}
use Rattle.std.proofs.lemmas.List.{drop-map}
use Rattle.std.proofs.Common.{length-take, length-drop}
use Rattle.word.proofs.rows.part.Goals as goal

pub returns : goal.returns
returns g c =
    let a = c.args in
    let v = g.T.Word.value in
    (sym (ap (take (a.end - a.start)) (drop-map v a.start a.words.now) ∙ take-map v _ _), simp (length-take, length-drop) (omega arith))
