-- `equal_row`: the three parts agree exactly if the whole does.
use mathlib.Core.Path.{refl, sym, ap, ◌∙◌}
use mathlib.Core.Bool.{false, false≢true}
use Prim.Native.Nat.{◌+◌, ◌-◌, ◌*◌, ◌/◌}
use native.Mathlib.Nat.{add_assoc, div-mul-le_self}
use native.Mathlib.Omega.{arith}
use Rattle.std.specs.Prelude.{map}
use Rattle.rules.specs.Positions.{row}
use Rattle.laws.proofs.Words.Agree.{tells_same, tells_no, tells_zero, differs_on, agree_on, agree_off}
use Rattle.equal.proofs.equal_row.Goals as goal

pub returns-then-one-ne0 : goal.returns-then-one-ne0
returns-then-one-ne0 g c =
    let a = c.args in
    let W = g.row.W in
    let b = row W a.order (map g.T.Word.value a.left.now) in
    let d = row W a.order (map g.T.Word.value a.right.now) in
    tells_same false a.len (λ i. b (a.p + i)) (λ i. d (a.q + i))
    (tells_no a.len (λ i. b (a.p + i)) (λ i. d (a.q + i)) (λ all. c.if-one-ne0.true (c.number-one.ensures ∙ c.differ_piece.ensures.all_none (λ j l. all j (omega arith)))))

pub returns-then-not-two : goal.returns-then-not-two
returns-then-not-two g c =
    let a = c.args in
    let W = g.row.W in
    let b = row W a.order (map g.T.Word.value a.left.now) in
    let d = row W a.order (map g.T.Word.value a.right.now) in
    let r = c.lead-first.result in
    let k = (a.len - r) / W in
    let u = div-mul-le_self (a.len - r) W in
    tells_same false a.len (λ i. b (a.p + i)) (λ i. d (a.q + i))
    (tells_no a.len (λ i. b (a.p + i)) (λ i. d (a.q + i))
    (λ all. false≢true (sym c.if-not-two.true ∙ c.equal_whole-two.ensures.all_yes
    (agree_off r (k * W) a.len (λ i. b (a.p + i)) (λ i. d (a.q + i)) (λ i. b (a.p + r + i)) (λ i. d (a.q + r + i)) (λ j l. ap b (add_assoc a.p r j)) (λ j l. ap d (add_assoc a.q r j)) (omega (arith, u)) all))))

pub returns : goal.returns
returns g c =
    let a = c.args in
    let W = g.row.W in
    let b = row W a.order (map g.T.Word.value a.left.now) in
    let d = row W a.order (map g.T.Word.value a.right.now) in
    let r = c.lead-first.result in
    let k = (a.len - r) / W in
    let t = r + k * W in
    let u = div-mul-le_self (a.len - r) W in
    tells_same _ a.len (λ i. b (a.p + i)) (λ i. d (a.q + i))
    (tells_zero c.number-three.result a.len (λ i. b (a.p + i)) (λ i. d (a.q + i))
    (differs_on t (a.len - t) a.len (λ i. b (a.p + i)) (λ i. d (a.q + i)) (λ i. b (a.p + t + i)) (λ i. d (a.q + t + i)) (λ j l. ap b (add_assoc a.p t j)) (λ j l. ap d (add_assoc a.q t j)) (omega (arith, u))
    (agree_on r (k * W) t (λ i. b (a.p + i)) (λ i. d (a.q + i)) (λ i. b (a.p + r + i)) (λ i. d (a.q + r + i)) (λ j l. ap b (add_assoc a.p r j)) (λ j l. ap d (add_assoc a.q r j)) refl (c.differ_piece.ensures.none_all (rw c.number-one.ensures at c.if-one-ne0.false))
    (c.equal_whole-two.ensures.yes_all c.if-not-two.false))
    c.number-three.result (rw (sym c.number-three.ensures) at c.differ_piece-2.ensures)))
