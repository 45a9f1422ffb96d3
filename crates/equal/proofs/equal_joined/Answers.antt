-- `equal_joined`: the first i words agree; a block that differs, or the last words, decide.
use mathlib.Core.Path.{refl, ap, ◌∙◌}
use Prim.Native.Nat.{ℕ, ◌+◌, ◌-◌}
use native.Mathlib.Nat.{add_assoc}
use native.Mathlib.Omega.{arith}
use lib.ListN.{get_or}
use Rattle.std.specs.Prelude.{map}
use Rattle.laws.proofs.Words.Funnel.{funneled}
use Rattle.laws.proofs.Words.Agree.{agree_on, agree_off, tells_no, tells_zero, differs_on}
use Rattle.equal.proofs.equal_joined.Goals as goal

pub returns-then-v-ne0 : goal.returns-then-v-ne0
returns-then-v-ne0 g c =
    let a = c.args in
    let i = c.loop-i.i in
    let w = g.T.Word.value in
    let ls = map w a.left.now in
    let rs = map w a.right.now in
    let b : ℕ → ℕ = λ x. get_or ls x 0 in
    let d : ℕ → ℕ = λ x. funneled g.row.W a.order a.head.0 (get_or rs x 0) (get_or rs (x + 1) 0) in
    tells_no a.k (λ j. b (a.a + j)) (λ j. d (a.b + j))
    (λ all. c.if-v-ne0.true (c.number-v.ensures ∙ c.differ_joined.ensures.all_none (agree_off i _ a.k (λ j. b (a.a + j)) (λ j. d (a.b + j)) (λ j. b (a.a + i + j)) (λ j. d (a.b + i + j)) (λ j l. ap b (add_assoc a.a i j)) (λ j l. ap d (add_assoc a.b i j)) (omega arith) all)))

pub loop-i-preserved : goal.loop-i-preserved
loop-i-preserved g c =
    let a = c.args in
    let i = c.loop-i.i in
    let w = g.T.Word.value in
    let ls = map w a.left.now in
    let rs = map w a.right.now in
    let b : ℕ → ℕ = λ x. get_or ls x 0 in
    let d : ℕ → ℕ = λ x. funneled g.row.W a.order a.head.0 (get_or rs x 0) (get_or rs (x + 1) 0) in
    (omega arith, agree_on i _ _ (λ j. b (a.a + j)) (λ j. d (a.b + j)) (λ j. b (a.a + i + j)) (λ j. d (a.b + i + j)) (λ j l. ap b (add_assoc a.a i j)) (λ j l. ap d (add_assoc a.b i j)) refl c.loop-i.invariant.1 (c.differ_joined.ensures.none_all (rw c.number-v.ensures at c.if-v-ne0.false)))

pub returns : goal.returns
returns g c =
    let a = c.args in
    let i = c.loop-i.i in
    let w = g.T.Word.value in
    let ls = map w a.left.now in
    let rs = map w a.right.now in
    let b : ℕ → ℕ = λ x. get_or ls x 0 in
    let d : ℕ → ℕ = λ x. funneled g.row.W a.order a.head.0 (get_or rs x 0) (get_or rs (x + 1) 0) in
    rw c.number.ensures
    (tells_zero _ a.k (λ j. b (a.a + j)) (λ j. d (a.b + j)) (differs_on i (a.k - i) a.k (λ j. b (a.a + j)) (λ j. d (a.b + j)) (λ j. b (a.a + i + j)) (λ j. d (a.b + i + j)) (λ j l. ap b (add_assoc a.a i j)) (λ j l. ap d (add_assoc a.b i j)) (omega arith) c.loop-i.invariant.1 _ c.differ_joined-2.ensures))
