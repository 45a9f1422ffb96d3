-- Document 01's sentences as laws of the definitions: what accepted and refused calls do, and the field and row rules bit by bit. Assumes nothing.
use Prim.Native.Nat.{ℕ, zero, suc, ◌+◌, ◌*◌, ◌%◌, ◌^◌, ◌≤◌, ◌<◌}
use mathlib.Core.Path.{◌≡◌, refl, sym, ◌∙◌, ap, ap₂}
use mathlib.Core.Logic.{◌≢◌, ◌⊎◌, inl, inr}
use mathlib.Core.Bool.{true, ◌&&◌}
use mathlib.Core.List.{List, [], ◌∷◌}
use native.Mathlib.Nat.{add_assoc, le_of_suc-le-suc, eq-or-lt_of_le}
use native.Mathlib.Omega.{arith}
use lib.ListN.{length}
use lib.Dec.{eqb}
use lib.IntN.{ℤ}
use borrow.Author.Tests.{eqb-true, eq-eqb, lt-ltb, le-ltb}
use Rattle.rules.specs.Types.{Order, Span, Significance, Sign, Refusal, Verdict, Ok, Err, Lsb0}
use Rattle.rules.specs.Bits.{bit_n, of_bits, tabulate, bit_at, from_bits}
use Rattle.rules.specs.Positions.{row, start, span_bit, position, mirror, from_row, within, over, spliced}
use Rattle.rules.specs.Fields.{load_of, read_as, bits_of, store_of, fits}
use Rattle.rules.specs.Rows.{copied, moved, copied_within, applied, right_bit, combined, same_bits, same_spans, first_with, last_with}
use Rattle.rules.specs.Refusals.{number, verdict}
use Rattle.rules.specs.Calls.{Answer, refused, done, found_at, absent, said, unless, Call, first_found, last_found, cases, answer!, after!, answer, after, swap_verdict, swap_answer, swap_left, swap_right}
use Rattle.rules.proofs.Bits.Bit.{bit_bit, bit_cases_lem}
use Rattle.rules.proofs.Rows.Row.{row_bit}
use Rattle.rules.proofs.Rows.Splice.{spliced_inside}
use Rattle.rules.proofs.Rows.Spans.{both}
use Rattle.rules.proofs.Searches.Search.{first_is, last_is}
use Rattle.rules.proofs.Fields.Field.{load_store}
use Rattle.rules.proofs.Fields.Signed.{fits_returned}
use Rattle.rules.specs.Samples.{at_head}

-- and, or, xor of a row with a right side of four ones
with_four_ones : ℕ → List ℕ
with_four_ones op = combined 8 op (0xB4 ∷ []) (at_head Lsb0 0 8) (0xFF ∷ []) (at_head Lsb0 0 4)

booleans : with_four_ones 8 ∷ with_four_ones 14 ∷ with_four_ones 6 ∷ [] ≡ (0x04 ∷ []) ∷ (0xBF ∷ []) ∷ (0xBB ∷ []) ∷ []
unfolding with_four_ones combined applied right_bit span_bit start spliced from_row from_bits tabulate of_bits over within row mirror position bit_at bit_n
booleans = refl

-- ---- refused and accepted calls

-- Each returns its number alone, and all lent memory holds its old bits.
pub refused_call : (W : ℕ) (c : Call) (ws : List ℕ) (r : Refusal) → verdict (cases W (length ws) c) ≡ Err r → (answer W c ws ≡ refused (number r)) × (after W c ws ≡ ws)
unfolding answer after
refused_call W c ws r e = (ap (λ (v : Verdict). said v (answer! W c ws)) e, ap (λ (v : Verdict). unless v (after! W c ws) ws) e)

pub accepted_call : (W : ℕ) (c : Call) (ws : List ℕ) → verdict (cases W (length ws) c) ≡ Ok tt → (answer W c ws ≡ answer! W c ws) × (after W c ws ≡ after! W c ws)
unfolding answer after
accepted_call W c ws e = (ap (λ (v : Verdict). said v (answer! W c ws)) e, ap (λ (v : Verdict). unless v (after! W c ws) ws) e)

-- the same of a swap: both buffers
module _ (W : ℕ) (ws : List ℕ) (s : Span) (vs : List ℕ) (t : Span) where
  pub refused_swap : (r : Refusal) → swap_verdict W ws s vs t ≡ Err r
      → (swap_answer W ws s vs t ≡ refused (number r)) × (swap_left W ws s vs t ≡ ws) × (swap_right W ws s vs t ≡ vs)
  unfolding swap_answer swap_left swap_right
  refused_swap r e = (
    ap (λ (v : Verdict). said v done) e,
    ap (λ (v : Verdict). unless v (copied W ws s vs t) ws) e,
    ap (λ (v : Verdict). unless v (copied W vs t ws s) vs) e,
  )

  pub accepted_swap : swap_verdict W ws s vs t ≡ Ok tt
      → (swap_answer W ws s vs t ≡ done) × (swap_left W ws s vs t ≡ copied W ws s vs t) × (swap_right W ws s vs t ≡ copied W vs t ws s)
  unfolding swap_answer swap_left swap_right
  accepted_swap e = (
    ap (λ (v : Verdict). said v done) e,
    ap (λ (v : Verdict). unless v (copied W ws s vs t) ws) e,
    ap (λ (v : Verdict). unless v (copied W vs t ws s) vs) e,
  )

-- an answer `done` tells that the request was accepted
pub done_fine : (v : Verdict) (a : Answer) → said v a ≡ done → v ≡ Ok tt
done_fine (Ok _) a e = refl
done_fine (Err r) a e = let z : ◌≡◌ {A = ℕ} 0 1 = cc in absurd (omega arith)

pub fine_of_done : (W : ℕ) (c : Call) (ws : List ℕ) → answer W c ws ≡ done → verdict (cases W (length ws) c) ≡ Ok tt
unfolding answer
fine_of_done W c ws e = done_fine (verdict (cases W (length ws) c)) (answer! W c ws) e

-- ---- fields

-- A store's value is what a load then reads: of the low n bits, with the sign
pub stored_loaded : (W : ℕ) → 0 < W → (o : Order) (e : Significance) (g : Sign) (K : ℕ) (z : ℤ) (ws : List ℕ) (at n : ℕ) → at + n ≤ length ws * W
    → read_as g n (load_of W o e (store_of W o e ws at n (bits_of K z)) at n) ≡ read_as g n (bits_of K z % 2 ^ n)
stored_loaded W pos o e g K z ws at n h = ap (read_as g n) (load_store W pos o e ws at n (bits_of K z) h)

-- Strict store: the value that fits is what a load of the same sign returns.
pub strictly_stored : (W : ℕ) → 0 < W → (o : Order) (e : Significance) (g : Sign) (K : ℕ) (z : ℤ) (ws : List ℕ) (at n : ℕ) → at + n ≤ length ws * W
    → 0 < n → n ≤ K → fits n g z ≡ true → read_as g n (load_of W o e (store_of W o e ws at n (bits_of K z)) at n) ≡ z
strictly_stored W pos o e g K z ws at n h p l f = stored_loaded W pos o e g K z ws at n h ∙ fits_returned K n g z p l f

-- ---- rows

module _ (W : ℕ) (pos : 0 < W) (ws : List ℕ) (s : Span) (bounds : start W s + s.len ≤ length ws * W) where
  -- Copy between: bit i of the target becomes bit i of the source.
  pub copy_bit : (vs : List ℕ) (t : Span) (i : ℕ) → i < s.len → span_bit W (copied W ws s vs t) s i ≡ span_bit W vs t i
  unfolding span_bit copied
  copy_bit vs t i h =
      spliced_inside W pos s.order ws (start W s) s.len (λ i. row W t.order vs (start W t + i)) bounds i h ∙ row_bit W t.order vs (start W t + i)

  -- Copy inside: bit to + i becomes the old bit from + i.
  pub within_bit : (from count to i : ℕ) → to + count ≤ s.len → i < count → span_bit W (copied_within W ws s from count to) s (to + i) ≡ span_bit W ws s (from + i)
  unfolding span_bit copied_within moved
  within_bit from count to i l h =
      ap (row W s.order (copied_within W ws s from count to)) (sym (add_assoc (start W s) to i))
      ∙ spliced_inside W pos s.order ws (start W s + to) count (λ i. row W s.order ws (start W s + from + i)) (omega arith) i h
      ∙ row_bit W s.order ws (start W s + from + i) ∙ ap (row W s.order ws) (add_assoc (start W s) from i)

  -- Boolean: into the left span.
  pub boolean_bit : (op : ℕ) (vs : List ℕ) (t : Span) (i : ℕ) → i < s.len → span_bit W (combined W op ws s vs t) s i ≡ applied op (span_bit W ws s i) (right_bit W vs t i)
  unfolding span_bit combined applied
  boolean_bit op vs t i h =
      spliced_inside W pos s.order ws (start W s) s.len (λ i. bit_n op (2 * span_bit W ws s i + right_bit W vs t i)) bounds i h
      ∙ bit_bit op (2 * span_bit W ws s i + right_bit W vs t i)

-- Right bits past its end count as false.
pub right_here : (W : ℕ) (vs : List ℕ) (t : Span) (i : ℕ) → i < t.len → right_bit W vs t i ≡ span_bit W vs t i
unfolding right_bit
right_here W vs t i h = rw (lt-ltb i t.len h)

pub right_past : (W : ℕ) (vs : List ℕ) (t : Span) (i : ℕ) → t.len ≤ i → right_bit W vs t i ≡ 0
unfolding right_bit
right_past W vs t i h = rw (le-ltb i t.len h)

-- so `and` clears there, and `or` and `xor` leave the left bit
pub past_end : (a : ℕ) → a < 2 → (applied 8 a 0 ≡ 0) × (applied 14 a 0 ≡ a) × (applied 6 a 0 ≡ a)
unfolding applied bit_n
past_end a h = go (bit_cases_lem a h)
  where
    go : (a ≡ 0) ⊎ (a ≡ 1) → (applied 8 a 0 ≡ 0) × (applied 14 a 0 ≡ a) × (applied 6 a 0 ≡ a)
    go (inl e) = rw e (refl, refl, refl)
    go (inr e) = rw e (refl, refl, refl)

-- Equal: yes exactly if lengths and all bits agree.
pub same_all : (n : ℕ) (b c : ℕ → ℕ) → same_bits n b c ≡ true → (i : ℕ) → i < n → b i ≡ c i
unfolding same_bits
same_all zero b c e i h = absurd (omega arith)
same_all (suc n) b c e i h = go (both (eqb (b n) (c n)) (same_bits n b c) e) (λ p. same_all n b c p i) (eq-or-lt_of_le (le_of_suc-le-suc h))
  where
    go : (eqb (b n) (c n) ≡ true) × (same_bits n b c ≡ true) → (same_bits n b c ≡ true → i < n → b i ≡ c i) → (i ≡ n) ⊎ (i < n) → b i ≡ c i
    go p ih (inl q) = ap b q ∙ eqb-true (b n) (c n) p.0 ∙ ap c (sym q)
    go p ih (inr q) = ih p.1 q

pub all_same : (n : ℕ) (b c : ℕ → ℕ) → ((i : ℕ) → i < n → b i ≡ c i) → same_bits n b c ≡ true
unfolding same_bits
all_same zero b c h = refl
all_same (suc n) b c h = ap₂ ◌&&◌ (eq-eqb (b n) (c n) (h n (omega arith))) (all_same n b c (λ i l. h i (omega arith)))

pub equal_yes : (W : ℕ) (ws : List ℕ) (s : Span) (vs : List ℕ) (t : Span) → same_spans W ws s vs t ≡ true → (s.len ≡ t.len) × ((i : ℕ) → i < s.len → span_bit W ws s i ≡ span_bit W vs t i)
unfolding same_spans
equal_yes W ws s vs t e =
    let p = both (eqb s.len t.len) (same_bits s.len (span_bit W ws s) (span_bit W vs t)) e in
    (eqb-true s.len t.len p.0, same_all s.len (span_bit W ws s) (span_bit W vs t) p.1)

pub yes_equal : (W : ℕ) (ws : List ℕ) (s : Span) (vs : List ℕ) (t : Span) → s.len ≡ t.len → ((i : ℕ) → i < s.len → span_bit W ws s i ≡ span_bit W vs t i) → same_spans W ws s vs t ≡ true
unfolding same_spans
yes_equal W ws s vs t e h = ap₂ ◌&&◌ (eq-eqb s.len t.len e) (all_same s.len (span_bit W ws s) (span_bit W vs t) h)

-- First: the smallest such index, or absent exactly if there is none.
pub first_at : (n : ℕ) (b : ℕ → ℕ) (v k : ℕ) → k < n → b k ≡ v → ((i : ℕ) → i < k → b i ≢ v) → first_found n (first_with n b v) ≡ found_at k
first_at n b v k h e free =
    let q : k ≡ first_with n b v = first_is n b v k (omega arith) free (λ l. e) in
    ap (first_found n) (sym q) ∙ rw (lt-ltb k n h)

pub first_absent : (n : ℕ) (b : ℕ → ℕ) (v : ℕ) → ((i : ℕ) → i < n → b i ≢ v) → first_found n (first_with n b v) ≡ absent
first_absent n b v free =
    let q : n ≡ first_with n b v = first_is n b v n (omega arith) free (λ l. absurd (omega arith)) in
    ap (first_found n) (sym q) ∙ rw (le-ltb n n (omega arith))

-- Last: the largest.
pub last_at : (n : ℕ) (b : ℕ → ℕ) (v k : ℕ) → k < n → b k ≡ v → ((i : ℕ) → k < i → i < n → b i ≢ v) → last_found (last_with n b v) ≡ found_at k
last_at n b v k h e free =
    ap last_found (sym (last_is n b v (suc k) (omega arith) (λ i l m. free i l m) (λ i p. let q : i ≡ k = omega arith in ap b q ∙ e)))

pub last_absent : (n : ℕ) (b : ℕ → ℕ) (v : ℕ) → ((i : ℕ) → i < n → b i ≢ v) → last_found (last_with n b v) ≡ absent
last_absent n b v free = ap last_found (sym (last_is n b v 0 (omega arith) (λ i l m. free i m) (λ i p. absurd (omega arith))))
