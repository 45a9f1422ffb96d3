-- `store_whole`: the words passed hold the first bits of the number, the others are as they were. Assumes nothing.
use native.Mathlib.Omega.{arith}
use native.Mathlib.Nat.{zero-mul, sub_self}
use mathlib.Core.Path.{◌≡◌, ap, ap₂, ◌∙◌}
use Prim.Native.Nat.{ℕ, ◌+◌, ◌-◌, ◌*◌, ◌%◌, ◌^◌}
use lib.ListN.{length, set}
use Rattle.std.specs.Prelude.{map}
use Rattle.std.proofs.lemmas.List.{length-map, map-set}
use Rattle.rules.specs.Fields.{store_of}
use Rattle.laws.proofs.Fields.Cuts.{first_of_value, rest_of_value, first_all, store_none}
use Rattle.laws.proofs.Words.Typed.{row_below, words_left}
use Rattle.laws.proofs.Words.Wholes.{store_more}
use Rattle.bits.proofs.parts.store_whole.Goals as goal

pub loop-i-init : goal.loop-i-init
loop-i-init g c =
    let a = c.args in
    let W = g.row.W in
    let m = g.met.T.Word in
    λ o. rw zero-mul (store_none W m.some o a.significance _ (row_below g.T.Word.value W m.below a.part.now) 0 _)

pub loop-i-preserved : goal.loop-i-preserved
loop-i-preserved g c =
    let l = c.loop-i in
    let a = c.args in
    let e = a.significance in
    let W = g.row.W in
    let v = g.T.Word.value in
    let ws = map v a.part.now in
    let n = length a.part.now in
    let m = (n - 1 - l.i) * W in
    let more : (n - l.i) * W ≡ m + W = words_left W l.i n (omega arith) in
    let same : m ≡ (n - (l.i + 1)) * W = ap (λ (x : ℕ). x * W) (omega arith) in
    let word : v c.of.result ≡ rest_of_value e (first_of_value e a.v m) (l.i * W) % 2 ^ W = rw (c.rest_of.ensures, c.first_of-upper.ensures) at c.of.ensures in
    λ o. map-set v l.part l.i c.of.result ∙ ap (set (map v l.part) l.i) word
    ∙ store_more W g.met.T.Word.some o e ws l.i m a.v (rw length-map (omega arith)) (l.invariant o ∙ ap (λ (x : ℕ). store_of W o e ws 0 (l.i * W) (first_of_value e a.v x)) more)
    ∙ ap (λ (x : ℕ). store_of W o e ws 0 ((l.i + 1) * W) (first_of_value e a.v x)) same

pub returns : goal.returns
returns g c =
    let a = c.args in
    let l = c.loop-i in
    let e = a.significance in
    let W = g.row.W in
    let ws = map g.T.Word.value a.part.now in
    let n = length a.part.now in
    let all : l.i ≡ n = omega arith in
    let none : (n - l.i) * W ≡ 0 = rw all (rw sub_self (zero-mul W)) in
    λ o. l.invariant o ∙ ap₂ (λ (x y : ℕ). store_of W o e ws 0 (x * W) (first_of_value e a.v y)) all none
    ∙ ap (store_of W o e ws 0 (n * W)) (first_all e a.v)
