-- `load_near`: a piece of the chunk, or that and a piece of the word after it. Assumes nothing.
use native.Mathlib.Omega.{arith}
use mathlib.Core.Path.{◌≡◌, sym, ap, ap₂, ◌∙◌}
use Prim.Native.Nat.{ℕ, ◌+◌, ◌*◌, ◌/◌}
use Rattle.std.specs.Prelude.{map}
use Rattle.rules.specs.declared.Significance.{Significance}
use Rattle.rules.specs.Fields.{load_of}
use Rattle.laws.proofs.Fields.Chunk.{own, chunk, chunk_piece, chunk_two}
use Rattle.laws.proofs.Fields.Cuts.{joined, load_fits}
use Rattle.laws.proofs.Words.Typed.{divides_64}
use Rattle.bits.proofs.near.load_near.Goals as goal

pub returns-then-first-len : goal.returns-then-first-len
returns-then-first-len g c =
    let a = c.args in
    let W = g.row.W in
    let m = g.met.T.Word in
    let ws = map g.T.Word.value a.words.now in
    let r = c.of-cut.result in
    let o = a.order in
    let all : r.first ≡ a.len = omega arith in
    load_fits W m.some o a.significance ws (a.word * W + a.head.0) a.len
    (c.piece-a.ensures.0 ∙ chunk_piece W m.some o ws a.word chunk c.chunk_at-x.ensures.0 a.head.0 r.first (omega arith)
    ∙ ap₂ (λ (e : Significance) (n : ℕ). load_of W o e ws (a.word * W + a.head.0) n) (sym c.requires.5) all)

pub returns : goal.returns
returns g c =
    let a = c.args in
    let W = g.row.W in
    let m = g.met.T.Word in
    let ws = map g.T.Word.value a.words.now in
    let r = c.of-cut.result in
    let o = a.order in
    let s = c.requires.5 in
    let cuts = c.of-cut.ensures.all in
    let e = c.of-cut.ensures.edge (omega arith) in
    let all : r.first + r.last ≡ a.len = omega arith in
    load_fits W m.some o a.significance ws (a.word * W + a.head.0) a.len
    (c.join.ensures ∙ ap (λ (e : Significance). joined e c.piece-a.result r.first c.piece_at-b.result r.last) s
    ∙ chunk_two W m.some o ws a.word chunk c.chunk_at-x.ensures.0 (chunk / W) a.head.0 r.first r.last (sym (divides_64 g.T.Word.WIDTH W m.wide)) e (omega arith)
    c.piece-a.ensures.0 (c.piece_at-b.ensures.0 (own o))
    ∙ ap₂ (λ (e : Significance) (n : ℕ). load_of W o e ws (a.word * W + a.head.0) n) (sym s) all)
