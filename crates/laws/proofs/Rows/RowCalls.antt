-- The calls on rows: answer and memory from a verdict and from the row that code leaves. Assumes nothing.
use Prim.Native.Nat.{ℕ, ◌+◌, ◌*◌, ◌≤◌, ◌<◌}
use mathlib.Core.Path.{◌≡◌, refl, sym, ◌∙◌, ap, ap₂}
use mathlib.Core.Bool.{Bool, ◌&&◌, cond}
use mathlib.Core.List.{List}
use native.Mathlib.Nat.{le_trans, le_of_mul-le-mul_right}
use native.Mathlib.Decide.{dec_lt}
use native.Mathlib.Omega.{arith}
use lib.ListN.{length}
use borrow.Author.Tests.{eq-eqb, ne_eqb}
use Rattle.laws.specs.Types.{Order, Span, Refusal, Ok, Err}
use Rattle.rules.specs.Positions.{row, start, span_bit, spliced}
use Rattle.rules.specs.Rows.{copied, moved, copied_within, applied, right_bit, combined, same_bits, same_spans}
use Rattle.rules.specs.Refusals.{number, verdict, pair_cases, copy_cases, within_cases}
use Rattle.rules.specs.Calls.{Answer, refused, done, says_yes, says_no, Call, here, there, copy_from, copy_within, boolean, equal, cases, answer!, after!, answer, swap_verdict}
use Rattle.rules.specs.Answers.{write_says, Gives, Swaps}
use Rattle.rules.proofs.Refusals.Tables.{Inside}
use Rattle.rules.proofs.Refusals.Accepted.{fine_pair, fine_copy}
use Rattle.rules.proofs.Rows.Splice.{splice_eq}
use Rattle.rules.proofs.Sentences.Sentences.{refused_call, accepted_call, refused_swap, accepted_swap, right_here, right_past}

-- ---- any writing call

pub call_refused : (W : ℕ) (c : Call) (ws : List ℕ) (r : Refusal) {m : List ℕ} → verdict (cases W (length ws) c) ≡ Err r → m ≡ ws
    → Gives W c ws (write_says (Err r)) m
call_refused W c ws r e em =
    let k = refused_call W c ws r e in
    record { answers = sym k.0; holds = em ∙ sym k.1 }

pub call_done : (W : ℕ) (c : Call) (ws : List ℕ) {m : List ℕ} → answer! W c ws ≡ done → verdict (cases W (length ws) c) ≡ Ok tt → m ≡ after! W c ws
    → Gives W c ws (write_says (Ok tt)) m
call_done W c ws d e em =
    let k = accepted_call W c ws e in
    record { answers = sym (k.0 ∙ d); holds = em ∙ sym k.1 }

-- where an accepted span starts, there is room for its bits
pub start_in : (W n : ℕ) (s : Span) {p : ℕ} → Inside W n s → p ≡ start W s → p + s.len ≤ n * W
unfolding start
start_in W n s i e = omega (arith, e, i)

-- and where it starts is asked of numbers that are small enough
pub may_start : (W n : ℕ) (s : Span) → Inside W n s → W ≤ 64 → (s.word ≤ 65536) × (s.head.0 < W) × (W ≤ 64)
may_start W n s i most =
    let some : 0 < W = omega (arith, i) in
    let room : s.word * W ≤ n * W = omega (arith, i) in
    (le_trans (le_of_mul-le-mul_right room some) i.few, i.starts, most)

-- ---- copy from another buffer

module _ (W : ℕ) (ws : List ℕ) (s : Span) (vs : List ℕ) (t : Span) where
  pub copy_refused : (r : Refusal) {m : List ℕ} → verdict (copy_cases W (length ws) s (length vs) t) ≡ Err r → m ≡ ws
      → Gives W (copy_from s vs t) ws (write_says (Err r)) m
  unfolding cases
  copy_refused r e em = call_refused W (copy_from s vs t) ws r e em

  -- what a copy of s's length leaves, in s's order
  pub copied_is : verdict (copy_cases W (length ws) s (length vs) t) ≡ Ok tt
      → spliced W s.order ws (start W s) s.len (λ i. row W s.order vs (start W t + i)) ≡ copied W ws s vs t
  unfolding copied span_bit start
  copied_is e =
      ap (λ (o : Order). spliced W s.order ws (start W s) s.len (λ i. row W o vs (start W t + i)))
      (fine_copy W (length ws) s (length vs) t e).pair.one_order

  pub copy_done : {m : List ℕ} → verdict (copy_cases W (length ws) s (length vs) t) ≡ Ok tt
      → m ≡ spliced W s.order ws (start W s) s.len (λ i. row W s.order vs (start W t + i))
      → Gives W (copy_from s vs t) ws (write_says (Ok tt)) m
  unfolding cases answer! after!
  copy_done e em = call_done W (copy_from s vs t) ws refl e (em ∙ copied_is e)

-- ---- copy within

module _ (W : ℕ) (ws : List ℕ) (s : Span) (from count to : ℕ) where
  pub within_refused : (r : Refusal) {m : List ℕ} → verdict (within_cases W (length ws) s from count to) ≡ Err r → m ≡ ws
      → Gives W (copy_within s from count to) ws (write_says (Err r)) m
  unfolding cases
  within_refused r e em = call_refused W (copy_within s from count to) ws r e em

  pub within_done : {m : List ℕ} → verdict (within_cases W (length ws) s from count to) ≡ Ok tt
      → m ≡ moved W s.order ws (start W s + from) (start W s + to) count
      → Gives W (copy_within s from count to) ws (write_says (Ok tt)) m
  unfolding cases answer! after! copied_within start
  within_done e em = call_done W (copy_within s from count to) ws refl e em

-- ---- boolean

module _ (W : ℕ) (pos : 0 < W) (op : ℕ) (ws : List ℕ) (s : Span) (vs : List ℕ) (t : Span) where
  pub boolean_refused : (r : Refusal) {m : List ℕ} → verdict (pair_cases W (length ws) s (length vs) t) ≡ Err r → m ≡ ws
      → Gives W (boolean op s vs t) ws (write_says (Err r)) m
  unfolding cases
  boolean_refused r e em = call_refused W (boolean op s vs t) ws r e em

  -- R i is the right bit i, and 0 past the right's end
  pub boolean_done : (R : ℕ → ℕ) {m : List ℕ} → verdict (pair_cases W (length ws) s (length vs) t) ≡ Ok tt
      → m ≡ spliced W s.order ws (start W s) s.len (λ i. applied op (row W s.order ws (start W s + i)) (R i))
      → ((i : ℕ) → i < t.len → R i ≡ row W s.order vs (start W t + i)) → ((i : ℕ) → t.len ≤ i → R i ≡ 0)
      → Gives W (boolean op s vs t) ws (write_says (Ok tt)) m
  unfolding cases answer! after! combined span_bit start
  boolean_done R e em inside past =
      call_done W (boolean op s vs t) ws refl e
      (em ∙ splice_eq W pos s.order ws (start W s) s.len (λ i. applied op (row W s.order ws (start W s + i)) (R i))
      (λ i. applied op (row W s.order ws (start W s + i)) (right_bit W vs t i))
      (λ i l. ap (applied op (row W s.order ws (start W s + i))) (go i (dec_lt i t.len))))
    where
      go : (i : ℕ) → Dec (i < t.len) → R i ≡ right_bit W vs t i
      go i (yes l) =
          inside i l ∙ ap (λ (o : Order). row W o vs (start W t + i)) (fine_pair W (length ws) s (length vs) t e).one_order
          ∙ sym (right_here W vs t i l)
      go i (no l) = past i (omega arith) ∙ sym (right_past W vs t i (omega arith))

-- ---- swap

same_pair : (W : ℕ) (ws : List ℕ) (s : Span) (vs : List ℕ) (t : Span) → verdict (copy_cases W (length ws) s (length vs) t) ≡ Ok tt
    → spliced W s.order vs (start W t) s.len (λ i. row W s.order ws (start W s + i)) ≡ copied W vs t ws s
unfolding copied span_bit start
same_pair W ws s vs t e =
    let f = fine_copy W (length ws) s (length vs) t e in
    ap₂ (λ (o : Order) (n : ℕ). spliced W o vs (start W t) n (λ i. row W s.order ws (start W s + i))) f.pair.one_order f.one_length

module _ (W : ℕ) (ws : List ℕ) (s : Span) (vs : List ℕ) (t : Span) where
  pub swap_refused : (r : Refusal) → verdict (copy_cases W (length ws) s (length vs) t) ≡ Err r
      → Swaps W ws s vs t (write_says (Err r)) ws vs
  unfolding swap_verdict
  swap_refused r e = let k = refused_swap W ws s vs t r e in record { answers = sym k.0; holds_left = sym k.1; holds_right = sym k.2 }

  pub swap_done : {left right : List ℕ} → verdict (copy_cases W (length ws) s (length vs) t) ≡ Ok tt
      → left ≡ spliced W s.order ws (start W s) s.len (λ i. row W s.order vs (start W t + i))
      → right ≡ spliced W s.order vs (start W t) s.len (λ i. row W s.order ws (start W s + i))
      → Swaps W ws s vs t (write_says (Ok tt)) left right
  unfolding swap_verdict
  swap_done e el er =
      let k = accepted_swap W ws s vs t e in
      record {
        answers = sym k.0;
        holds_left = el ∙ copied_is W ws s vs t e ∙ sym k.1;
        holds_right = er ∙ same_pair W ws s vs t e ∙ sym k.2;
      }

-- ---- equal

module _ (W : ℕ) (ws : List ℕ) (s : Span) (vs : List ℕ) (t : Span) where
  pub equal_refused : (r : Refusal) → verdict (pair_cases W (length ws) s (length vs) t) ≡ Err r → refused (number r) ≡ answer W (equal here s (there vs) t) ws
  unfolding cases
  equal_refused r e = sym (refused_call W (equal here s (there vs) t) ws r e).0

  -- unequal lengths answer no
  pub equal_lengths : verdict (pair_cases W (length ws) s (length vs) t) ≡ Ok tt → (s.len ≡ t.len → ⊥) → says_no ≡ answer W (equal here s (there vs) t) ws
  unfolding cases answer! same_spans
  equal_lengths e n =
      sym ((accepted_call W (equal here s (there vs) t) ws e).0
      ∙ ap (λ (b : Bool). cond (b && same_bits s.len (span_bit W ws s) (span_bit W vs t)) says_yes says_no) (ne_eqb s.len t.len n))

  -- equal lengths answer by the bits
  pub equal_bits : (b : Bool) {r : Answer} → verdict (pair_cases W (length ws) s (length vs) t) ≡ Ok tt → s.len ≡ t.len → r ≡ cond b says_yes says_no
      → b ≡ same_bits s.len (λ i. row W s.order ws (start W s + i)) (λ i. row W s.order vs (start W t + i))
      → r ≡ answer W (equal here s (there vs) t) ws
  unfolding cases answer! same_spans span_bit start
  equal_bits b e n er eb =
      er ∙ ap (λ (x : Bool). cond x says_yes says_no)
      (eb ∙ ap (λ (o : Order). same_bits s.len (λ i. row W s.order ws (start W s + i)) (λ i. row W o vs (start W t + i)))
      (fine_pair W (length ws) s (length vs) t e).one_order)
      ∙ sym ((accepted_call W (equal here s (there vs) t) ws e).0
      ∙ ap (λ (x : Bool). cond (x && same_bits s.len (span_bit W ws s) (span_bit W vs t)) says_yes says_no) (eq-eqb s.len t.len n))
