-- `store_near`: the chunk with a piece put anew, or that and a piece of the word after it. Assumes nothing.
use native.Mathlib.Omega.{arith}
use mathlib.Core.Path.{◌≡◌, sym, ap, ap₂, ◌∙◌}
use mathlib.Core.List.{List}
use Prim.Native.Nat.{ℕ, ◌+◌, ◌*◌, ◌/◌, ◌^◌, ◌≤◌, ◌<◌}
use lib.ListN.{length}
use Rattle.std.specs.Prelude.{map}
use Rattle.std.proofs.lemmas.List.{length-map}
use Rattle.rules.specs.declared.Order.{Order}
use Rattle.rules.specs.declared.Significance.{Significance}
use Rattle.rules.specs.Fields.{load_of, store_of}
use Rattle.rules.proofs.Fields.Field.{lowest}
use Rattle.laws.proofs.Fields.Chunk.{own, chunk, masked, chunk_stored, chunk_rest}
use Rattle.laws.proofs.Fields.Cuts.{first_of_value, rest_of_value, first_all}
use Rattle.laws.proofs.Words.Typed.{divides_64}
use Rattle.bits.proofs.near.store_near.Goals as goal

-- the chunk put back with a piece made anew: that piece is the field's first, and all else is as it was
front : (W : ℕ) → 0 < W → (o : Order) (ws vs : List ℕ) (word head n x y v : ℕ) → x ≡ load_of W o (own o) ws (word * W) chunk → x < 2 ^ chunk
    → vs ≡ store_of W o (own o) ws (word * W) chunk y → y ≡ masked chunk x (lowest chunk o head n) n v → head + n ≤ chunk → word * W + chunk ≤ length ws * W
    → vs ≡ store_of W o (own o) ws (word * W + head) n v
front W pos o ws vs word head n x y v is small put piece fits room =
    put ∙ ap (store_of W o (own o) ws (word * W) chunk) piece ∙ chunk_stored W pos o ws word chunk is head n fits small v room

pub returns-then-first-len : goal.returns-then-first-len
returns-then-first-len g c =
    let a = c.args in
    let W = g.row.W in
    let ws = map g.T.Word.value a.words.now in
    let r = c.of-cut.result in
    let o = a.order in
    let cuts = c.of-cut.ensures.all in
    let none : r.last ≡ 0 = omega arith in
    let all : r.first ≡ a.len = omega arith in
    let v : c.first_of-a.result ≡ a.v = c.first_of-a.ensures ∙ ap (first_of_value a.significance a.v) none ∙ first_all a.significance a.v in
    front W g.met.T.Word.some o ws _ a.word a.head.0 r.first _ _ _ c.chunk_at-x.ensures.0 c.chunk_at-x.ensures.1 c.put_chunk.ensures c.with_piece-y.ensures.0 (omega arith) (rw length-map (omega arith))
    ∙ ap₂ (λ (n x : ℕ). store_of W o (own o) ws (a.word * W + a.head.0) n x) all v
    ∙ ap (λ (e : Significance). store_of W o e ws (a.word * W + a.head.0) a.len a.v) (sym c.requires.5)

pub returns : goal.returns
returns g c =
    let a = c.args in
    let W = g.row.W in
    let m = g.met.T.Word in
    let ws = map g.T.Word.value a.words.now in
    let r = c.of-cut.result in
    let o = a.order in
    let s = c.requires.5 in
    let cuts = c.of-cut.ensures.all in
    let e = c.of-cut.ensures.edge (omega arith) in
    chunk_rest W m.some o ws a.word a.head.0 r.first r.last (chunk / W) chunk (sym (divides_64 g.T.Word.WIDTH W m.wide)) e a.v
    (front W m.some o ws _ a.word a.head.0 r.first _ _ _ c.chunk_at-x.ensures.0 c.chunk_at-x.ensures.1 c.put_chunk.ensures c.with_piece-y.ensures.0 (omega arith) (rw length-map (omega arith))
    ∙ ap (store_of W o (own o) ws (a.word * W + a.head.0) r.first) (c.first_of-a.ensures ∙ ap (λ (g : Significance). first_of_value g a.v r.last) s))
    (c.put_piece.ensures (own o) ∙ ap (store_of W o (own o) (map g.T.Word.value c.put_chunk.new.words) ((a.word + chunk / W) * W + 0) r.last) (c.rest_of-b.ensures ∙ ap (λ (g : Significance). rest_of_value g a.v r.first) s))
    ∙ ap₂ (λ (g : Significance) (n : ℕ). store_of W o g ws (a.word * W + a.head.0) n a.v) (sym s) (omega arith)
