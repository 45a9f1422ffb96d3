-- `store_middle`: a store in a part that is lent on is a store in the words. Assumes nothing.
use native.Mathlib.Omega.{arith}
use mathlib.Core.Path.{◌≡◌, sym, ap, ap₂, ◌∙◌}
use mathlib.Core.List.{List}
use Prim.Native.Nat.{ℕ, ◌+◌, ◌-◌, ◌*◌}
use lib.ListN.{length}
use borrow.Rule.Slice.PartMut.{mid_of}
use Rattle.std.specs.Prelude.{map}
use Rattle.std.proofs.lemmas.List.{length-map}
use Rattle.rules.specs.Fields.{store_of}
use Rattle.laws.proofs.Words.Typed.{row_below, mid_map, lent_map}
use Rattle.laws.proofs.Words.Wholes.{store_part}
use Rattle.bits.proofs.parts.store_middle.Goals as goal

pub returns : goal.returns
returns g c =
    let a = c.args in
    let W = g.row.W in
    let v = g.T.Word.value in
    let m = g.met.T.Word in
    let ws = map v a.words.now in
    let l = a.start + a.whole - a.start in
    let e : map v (mid_of a.start l a.words.now) ≡ mid_of a.start l ws = mid_map v a.start l a.words.now in
    let n : length (mid_of a.start l a.words.now) ≡ length (mid_of a.start l ws) = sym (length-map (mid_of a.start l a.words.now) v) ∙ ap length e in
    λ o. lent_map v a.start l a.words.now c.store_whole.new.part
    ∙ store_part W m.some o a.significance ws (row_below v W m.below a.words.now) a.start l a.whole (omega arith) (rw length-map (omega arith)) a.v
    (c.store_whole.ensures o ∙ ap₂ (λ (xs : List ℕ) (k : ℕ). store_of W o a.significance xs 0 (k * W) a.v) e n)
