-- `piece_at`: a field within one word is its piece, whatever the significance. Assumes nothing.
use native.Mathlib.Omega.{arith}
use mathlib.Core.Path.{ap, ◌∙◌}
use Prim.Native.Nat.{ℕ}
use Rattle.std.specs.Prelude.{map}
use Rattle.laws.proofs.Fields.Cuts.{piece_of, load_piece}
use Rattle.bits.proofs.parts.piece_at.Goals as goal

pub returns : goal.returns
returns g c =
    let a = c.args in
    let W = g.row.W in
    let p = c.piece.ensures in (
      λ e. p.0 ∙ ap (λ (x : ℕ). piece_of W x a.order a.head.0 a.n) c.word_at-x.ensures.0
          ∙ load_piece W g.met.T.Word.some a.order e (map g.T.Word.value a.words.now) a.word a.head.0 a.n (omega arith),
      p.1,
    )
