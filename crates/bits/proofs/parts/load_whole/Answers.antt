-- `load_whole`: what the loop has joined is the number that the words passed are. Assumes nothing.
use native.Mathlib.Omega.{arith}
use mathlib.Core.Path.{◌≡◌, ap, ◌∙◌}
use Prim.Native.Nat.{ℕ, ◌*◌}
use lib.ListN.{length}
use Rattle.std.specs.Prelude.{map}
use Rattle.rules.specs.declared.Order.TheVariants.{Lsb0}
use Rattle.rules.proofs.Fields.Field.{load_lt}
use Rattle.laws.proofs.Fields.Cuts.{joined}
use Rattle.laws.proofs.Words.Typed.{row_below, word_within, number_read}
use Rattle.laws.proofs.Words.Wholes.{load_none, load_more}
use Rattle.bits.proofs.parts.load_whole.Goals as goal

pub loop-i-init : goal.loop-i-init
loop-i-init g c = λ o. load_none g.row.W o _ _ 0

pub join-x-requires : goal.join-x-requires
join-x-requires g c =
    let l = c.loop-i in
    let a = c.args in
    let W = g.row.W in
    let word = word_within W l.i (length a.part.now) (omega arith) in (
      omega arith,
      omega arith,
      omega arith,
      rw (l.invariant Lsb0) (load_lt W g.met.T.Word.some Lsb0 a.significance (map g.T.Word.value a.part.now) 0 (l.i * W)),
      rw c.number.ensures (g.met.T.Word.below c.index-part-i.result),
    )

pub loop-i-preserved : goal.loop-i-preserved
loop-i-preserved g c =
    let a = c.args in
    let l = c.loop-i in
    let W = g.row.W in
    let m = g.met.T.Word in
    λ o. c.join-x.ensures ∙ ap (λ (w : ℕ). joined a.significance l.x (l.i * W) w W) (c.number.ensures ∙ number_read g.T.Word.value a.part.now l.i (omega arith) c.index-part-i.is)
    ∙ load_more W m.some o a.significance (map g.T.Word.value a.part.now) (row_below g.T.Word.value W m.below a.part.now) l.i (l.invariant o)

pub returns : goal.returns
returns g c =
    let l = c.loop-i in
    let all : l.i ≡ length c.args.part.now = omega arith in
    rw all at l.invariant
