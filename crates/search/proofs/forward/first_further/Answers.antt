-- `first_further`: the words passed over have none, and the piece after them settles it. Assumes nothing.
use native.Mathlib.Omega.{arith}
use mathlib.Core.Path.{◌≡◌}
use Prim.Native.Nat.{ℕ, ◌+◌, ◌-◌, ◌*◌, ◌/◌, ◌≤◌, ◌<◌}
use native.Mathlib.Nat.{mul-le-mul_right, add-mul, div-mul-le_self, div-add-mod', mod-lt}
use Rattle.std.specs.Prelude.{map}
use Rattle.rules.proofs.Refusals.Room.{room}
use Rattle.laws.proofs.Words.Typed.{row_below}
use Rattle.laws.proofs.Searches.RowSearch.{first_at_most, first_frame}
use Rattle.search.proofs.forward.first_further.Goals as goal

-- where the piece after the words passed over lies: it begins at bit i of the run, at the start of word j
module _ (W a len j : ℕ) (pos : 0 < W) (lo : a ≤ j) (hi : j ≤ a + len / W) where
  upto : (j - a) * W ≤ len
  upto = let l : j - a ≤ len / W = omega arith in omega (arith, mul-le-mul_right W l, div-mul-le_self len W)

  more : j < a + len / W → W ≤ len - (j - a) * W
  more l =
      let k : j - a + 1 ≤ len / W = omega arith in
      omega (arith, mul-le-mul_right W k, add-mul (j - a) 1 W, div-mul-le_self len W)

  rest : a + len / W ≤ j → len - (j - a) * W < W
  rest l = let k : j - a ≡ len / W = omega arith in rw k (omega (arith, div-add-mod' len W, mod-lt len pos))

pub overflow_add-result : goal.overflow_add-result
overflow_add-result g c =
    let a = c.args in
    let s = c.skip_up-j in
    let u = upto g.row.W a.a a.len s.result g.met.T.Word.some s.ensures.0 s.ensures.1 in
    omega (arith, u, first_at_most _ _ _ c.first_in_word.ensures)

pub returns : goal.returns
returns g c =
    let W = g.row.W in
    let w = g.T.Word in
    let m = g.met.T.Word in
    let a = c.args in
    let s = c.skip_up-j in
    let j = s.result in
    let e = a.a + a.len / W in
    let u = upto W a.a a.len j m.some s.ensures.0 s.ensures.1 in
    first_frame W m.some a.order (map w.value a.words.now) (row_below w.value W m.below a.words.now) a.sought a.a e j ((j - a.a) * W)
    c.least-n.result a.len (w.value c.flip.result) c.flip.ensures s.ensures.2 s.ensures.3
    (room W s.ensures.0) (omega arith) (λ l. omega (arith, more W a.a a.len j m.some s.ensures.0 s.ensures.1 l)) (λ l. omega (arith, rest W a.a a.len j m.some s.ensures.0 s.ensures.1 l)) c.first_in_word.ensures
