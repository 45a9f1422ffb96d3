-- `last_further`: the words passed over have none, and the piece before them settles it. Assumes nothing.
use mathlib.Core.Path.{◌≡◌}
use Prim.Native.Nat.{ℕ, min, ◌+◌, ◌-◌, ◌*◌, ◌≤◌, ◌<◌}
use native.Mathlib.Nat.{mul-le-mul_right, add-mul}
use native.Mathlib.Omega.{arith}
use Rattle.std.specs.Prelude.{map}
use Rattle.rules.proofs.Refusals.Room.{room}
use Rattle.laws.proofs.Words.Typed.{row_below}
use Rattle.laws.proofs.Searches.RowSearch.{last_at_most, last_frame}
use Rattle.search.proofs.backward.last_further.Goals as goal

-- where the pieces lie: i of the m bits before word e come before word j, and the last n of these in word j - 1
record Pieces (W word head m j i n : ℕ) : Type 0 where
  to : j * W ≡ word * W + head + i
  upto : i ≤ m
  parts : i - n + n ≡ i
  at : (j - 1) * W + (W - n) ≡ word * W + head + (i - n)
  whole : word + 1 < j → n ≡ W
  first : j ≤ word + 1 → i - n ≡ 0

module _ (W word head e m j n : ℕ) (small : head < W) (ends : e * W ≡ word * W + head + m) (lo : word + 1 ≤ j) (hi : j ≤ e) where
  abbrev before : ℕ
  before = m - (e - j) * W

  after-word : (word + 1) * W ≡ word * W + W
  after-word = omega (arith, add-mul word 1 W)

  from-word : word * W + W ≤ j * W
  from-word = omega (arith, after-word, mul-le-mul_right W lo)

  at-word : j * W ≡ word * W + head + before
  at-word = omega (arith, room W hi, from-word)

  one-less : (j - 1) * W + W ≡ j * W
  one-less = let l : 1 ≤ j = omega arith in omega (arith, room W l)

  place : (i : ℕ) → j * W ≡ word * W + head + i → i ≤ m → n ≡ min i W → Pieces W word head m j i n
  place i to upto en = record {
    to = to;
    upto = upto;
    parts = omega arith;
    at = omega (arith, one-less, from-word);
    whole = λ l. let k : word + 2 ≤ j = omega arith in omega (arith, add-mul word 2 W, mul-le-mul_right W k);
    first = λ l. omega (arith, after-word, mul-le-mul_right W l);
  }

  pieces : n ≡ min before W → Pieces W word head m j before n
  pieces en = place before at-word (omega arith) en

pub overflow_add-result : goal.overflow_add-result
overflow_add-result g c = omega (arith, last_at_most _ _ _ c.last_in_word.ensures)

pub returns : goal.returns
returns g c =
    let W = g.row.W in
    let w = g.T.Word in
    let m = g.met.T.Word in
    let a = c.args in
    let j = c.skip_down-j.result in
    let n = c.least-n.result in
    let p = pieces W a.word a.head.0 a.e a.m j n c.requires.0 c.requires.2 c.skip_down-j.ensures.0 c.skip_down-j.ensures.1 c.least-n.ensures in
    last_frame W m.some a.order (map w.value a.words.now) (row_below w.value W m.below a.words.now) a.sought (a.word * W + a.head.0) (a.word + 1) a.e j
    (a.m - (a.e - j) * W) n a.m (w.value c.flip.result) c.flip.ensures c.skip_down-j.ensures.2 c.skip_down-j.ensures.3
    c.requires.2 p.to p.upto p.parts p.at p.whole p.first c.last_in_word.ensures
