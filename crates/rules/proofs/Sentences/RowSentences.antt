-- What document 01 says of rows, as theorems on the promised functions: an answer that is no refusal tells that the request was accepted, and
-- with that each bit. Copy between, copy inside, boolean, swap, equal. Assumes nothing.
use mathlib.Core.Path.{◌≡◌, refl, sym, ap, ◌∙◌}
use mathlib.Core.Bool.{Bool, true, false, cond}
use mathlib.Core.List.{List}
use Prim.Native.Nat.{ℕ, ◌+◌, ◌*◌, ◌≤◌, ◌<◌}
use native.Mathlib.Omega.{arith}
use lib.ListN.{length, get_or}
use Rattle.rules.specs.Types.{Span, Verdict, Ok, Err}
use Rattle.rules.specs.Bits.{bit_n, bit_at}
use Rattle.rules.specs.Positions.{start, span_bit, covers}
use Rattle.rules.specs.Rows.{copied, applied, right_bit, combined, same_spans}
use Rattle.rules.specs.Refusals.{verdict, pair_cases}
use Rattle.rules.specs.Calls.{done, says_yes, says_no, said, unless, Side, words_of, lent_of, copy_from, copy_within, boolean, equal, span_covers, cases, answer!, after!, answer, after, writes!, swap_verdict, swap_answer, swap_left, swap_right}
use Rattle.rules.proofs.Rows.Row.{bit_at_at}
use Rattle.rules.proofs.Rows.Splice.{splice_eq}
use Rattle.rules.proofs.Refusals.Tables.{Inside}
use Rattle.rules.proofs.Refusals.Accepted.{Copy, fine_pair, fine_copy, fine_move}
use Rattle.rules.proofs.Sentences.Sentences.{done_fine, fine_of_done, accepted_call, accepted_swap, copy_bit, within_bit, boolean_bit, right_here, right_past, equal_yes, yes_equal}
use Rattle.rules.proofs.Isolation.Footprints.{beside, spliced_outside}

bounds : (W n : ℕ) (s : Span) → Inside W n s → start W s + s.len ≤ n * W
unfolding start
bounds W n s i = i.ends

module _ (W : ℕ) (wide : 0 < W) (ws : List ℕ) where
  -- ---- copy between

  module _ (s : Span) (vs : List ℕ) (t : Span) where
    copy_fine : answer W (copy_from s vs t) ws ≡ done → Copy W (length ws) s (length vs) t
    unfolding cases
    copy_fine e = fine_copy W (length ws) s (length vs) t (fine_of_done W (copy_from s vs t) ws e)

    -- Lengths are equal.
    pub copied_length : answer W (copy_from s vs t) ws ≡ done → s.len ≡ t.len
    copied_length e = (copy_fine e).one_length

    -- Bit i of the target becomes bit i of the source.
    pub copied_bit : answer W (copy_from s vs t) ws ≡ done → (i : ℕ) → i < s.len → span_bit W (after W (copy_from s vs t) ws) s i ≡ span_bit W vs t i
    unfolding after!
    copied_bit e i l =
        ap (λ (xs : List ℕ). span_bit W xs s i) (accepted_call W (copy_from s vs t) ws (fine_of_done W (copy_from s vs t) ws e)).1
        ∙ copy_bit W wide ws s (bounds W (length ws) s (copy_fine e).pair.left) vs t i l

    -- No bit outside the target changes: the real position p of word k.
    pub copied_beside : (k p : ℕ) → p < W → span_covers W s (k * W + p) ≡ false → bit_n (get_or (after W (copy_from s vs t) ws) k 0) p ≡ bit_n (get_or ws k 0) p
    unfolding writes!
    copied_beside k p l out = beside W wide (copy_from s vs t) ws k p l out

  -- ---- copy inside

  module _ (s : Span) (from count to : ℕ) where
    -- Bit to + i becomes the old bit from + i, for all i at once: as if all were read before one is written.
    pub moved_bit : answer W (copy_within s from count to) ws ≡ done → (i : ℕ) → i < count
        → span_bit W (after W (copy_within s from count to) ws) s (to + i) ≡ span_bit W ws s (from + i)
    unfolding cases after!
    moved_bit e i l =
        let fine = fine_of_done W (copy_within s from count to) ws e in
        let m = fine_move W (length ws) s from count to fine in
        ap (λ (xs : List ℕ). span_bit W xs s (to + i)) (accepted_call W (copy_within s from count to) ws fine).1
        ∙ within_bit W wide ws s (bounds W (length ws) s m.lies) from count to i m.target l

    -- Other bits stay, those of the source too.
    pub moved_beside : (k p : ℕ) → p < W → covers W s.order (start W s + to) count (k * W + p) ≡ false
        → bit_n (get_or (after W (copy_within s from count to) ws) k 0) p ≡ bit_n (get_or ws k 0) p
    unfolding writes!
    moved_beside k p l out = beside W wide (copy_within s from count to) ws k p l out

  -- ---- boolean

  module _ (op : ℕ) (s : Span) where
    module _ (vs : List ℕ) (t : Span) where
      -- Into the left span: bit i is the operation on the old left bit and the right bit.
      pub combined_bit : answer W (boolean op s vs t) ws ≡ done → (i : ℕ) → i < s.len
          → span_bit W (after W (boolean op s vs t) ws) s i ≡ applied op (span_bit W ws s i) (right_bit W vs t i)
      unfolding cases after!
      combined_bit e i l =
          let fine = fine_of_done W (boolean op s vs t) ws e in
          ap (λ (xs : List ℕ). span_bit W xs s i) (accepted_call W (boolean op s vs t) ws fine).1
          ∙ boolean_bit W wide ws s (bounds W (length ws) s (fine_pair W (length ws) s (length vs) t fine).left) op vs t i l

      pub combined_here : answer W (boolean op s vs t) ws ≡ done → (i : ℕ) → i < s.len → i < t.len
          → span_bit W (after W (boolean op s vs t) ws) s i ≡ applied op (span_bit W ws s i) (span_bit W vs t i)
      combined_here e i l h = combined_bit e i l ∙ ap (applied op (span_bit W ws s i)) (right_here W vs t i h)

      -- Right bits past its end count as false.
      pub combined_past : answer W (boolean op s vs t) ws ≡ done → (i : ℕ) → i < s.len → t.len ≤ i
          → span_bit W (after W (boolean op s vs t) ws) s i ≡ applied op (span_bit W ws s i) 0
      combined_past e i l h = combined_bit e i l ∙ ap (applied op (span_bit W ws s i)) (right_past W vs t i h)

      pub combined_beside : (k p : ℕ) → p < W → span_covers W s (k * W + p) ≡ false → bit_n (get_or (after W (boolean op s vs t) ws) k 0) p ≡ bit_n (get_or ws k 0) p
      unfolding writes!
      combined_beside k p l out = beside W wide (boolean op s vs t) ws k p l out

    -- Right bits past the left's end are ignored: two right sides that agree up to there leave the same words.
    pub combined_ignores : (vs : List ℕ) (t : Span) (us : List ℕ) (r : Span) → answer W (boolean op s vs t) ws ≡ done → answer W (boolean op s us r) ws ≡ done
        → ((i : ℕ) → i < s.len → right_bit W vs t i ≡ right_bit W us r i) → after W (boolean op s vs t) ws ≡ after W (boolean op s us r) ws
    unfolding after! combined
    combined_ignores vs t us r e f same =
        (accepted_call W (boolean op s vs t) ws (fine_of_done W (boolean op s vs t) ws e)).1
        ∙ splice_eq W wide s.order ws (start W s) s.len (λ i. applied op (span_bit W ws s i) (right_bit W vs t i)) (λ i. applied op (span_bit W ws s i) (right_bit W us r i))
        (λ i l. ap (applied op (span_bit W ws s i)) (same i l))
        ∙ sym (accepted_call W (boolean op s us r) ws (fine_of_done W (boolean op s us r) ws f)).1

  -- ---- swap: two buffers

  module _ (s : Span) (vs : List ℕ) (t : Span) where
    swap_fine : swap_answer W ws s vs t ≡ done → swap_verdict W ws s vs t ≡ Ok tt
    unfolding swap_answer
    swap_fine e = done_fine (swap_verdict W ws s vs t) done e

    both_in : swap_answer W ws s vs t ≡ done → Copy W (length ws) s (length vs) t
    unfolding swap_verdict
    both_in e = fine_copy W (length ws) s (length vs) t (swap_fine e)

    -- Lengths are equal.
    pub swapped_length : swap_answer W ws s vs t ≡ done → s.len ≡ t.len
    swapped_length e = (both_in e).one_length

    -- Each gets the other's old bits.
    pub swapped_left : swap_answer W ws s vs t ≡ done → (i : ℕ) → i < s.len → span_bit W (swap_left W ws s vs t) s i ≡ span_bit W vs t i
    swapped_left e i l =
        ap (λ (xs : List ℕ). span_bit W xs s i) (accepted_swap W ws s vs t (swap_fine e)).1
        ∙ copy_bit W wide ws s (bounds W (length ws) s (both_in e).pair.left) vs t i l

    pub swapped_right : swap_answer W ws s vs t ≡ done → (i : ℕ) → i < t.len → span_bit W (swap_right W ws s vs t) t i ≡ span_bit W ws s i
    swapped_right e i l =
        ap (λ (xs : List ℕ). span_bit W xs t i) (accepted_swap W ws s vs t (swap_fine e)).2
        ∙ copy_bit W wide vs t (bounds W (length vs) t (both_in e).pair.right) ws s i l

    -- No bit outside either span changes, whatever the answer.
    copied_outside : (k : Verdict) (xs : List ℕ) (a : Span) (ys : List ℕ) (b : Span) (q : ℕ) → span_covers W a q ≡ false
        → bit_at W (unless k (copied W xs a ys b) xs) q ≡ bit_at W xs q
    unfolding copied
    copied_outside (Ok _) xs a ys b q out = spliced_outside W wide a.order xs (start W a) a.len (span_bit W ys b) q out
    copied_outside (Err r) xs a ys b q out = refl

    pub swapped_beside_left : (k p : ℕ) → p < W → span_covers W s (k * W + p) ≡ false → bit_n (get_or (swap_left W ws s vs t) k 0) p ≡ bit_n (get_or ws k 0) p
    unfolding swap_left
    swapped_beside_left k p l out =
        sym (bit_at_at W (swap_left W ws s vs t) k p l) ∙ copied_outside (swap_verdict W ws s vs t) ws s vs t (k * W + p) out ∙ bit_at_at W ws k p l

    pub swapped_beside_right : (k p : ℕ) → p < W → span_covers W t (k * W + p) ≡ false → bit_n (get_or (swap_right W ws s vs t) k 0) p ≡ bit_n (get_or vs k 0) p
    unfolding swap_right
    swapped_beside_right k p l out =
        sym (bit_at_at W (swap_right W ws s vs t) k p l) ∙ copied_outside (swap_verdict W ws s vs t) vs t ws s (k * W + p) out ∙ bit_at_at W vs k p l

-- ---- equal, of sides in this buffer or a second one

-- lengths and all bits agree
pub record Agree (W : ℕ) (xs : List ℕ) (s : Span) (ys : List ℕ) (t : Span) : Type 0 where
  pub lengths : s.len ≡ t.len
  pub bits : (i : ℕ) → i < s.len → span_bit W xs s i ≡ span_bit W ys t i

yes_behind : (v : Verdict) (b : Bool) → said v (cond b says_yes says_no) ≡ says_yes → b ≡ true
yes_behind (Ok _) true e = refl
yes_behind (Ok _) false e = let z : ◌≡◌ {A = ℕ} 0 1 = cc in absurd (omega arith)
yes_behind (Err r) b e = let z : ◌≡◌ {A = ℕ} 0 1 = cc in absurd (omega arith)

no_behind : (v : Verdict) (b : Bool) → said v (cond b says_yes says_no) ≡ says_no → b ≡ true → ⊥
no_behind (Ok _) true e h = let z : ◌≡◌ {A = ℕ} 0 1 = cc in omega arith
no_behind (Ok _) false e h = let z : ◌≡◌ {A = ℕ} 0 1 = cc in omega arith
no_behind (Err r) b e h = let z : ◌≡◌ {A = ℕ} 0 1 = cc in omega arith

not_yes : (b : Bool) → (b ≡ true → ⊥) → cond b says_yes says_no ≡ says_no
not_yes true h = absurd (h refl)
not_yes false h = refl

module _ (W : ℕ) (ws : List ℕ) (a : Side) (s : Span) (b : Side) (t : Span) where
  abbrev same : Bool
  same = same_spans W (words_of ws a) s (words_of ws b) t

  agreeing : same ≡ true → Agree W (words_of ws a) s (words_of ws b) t
  agreeing e = let y = equal_yes W (words_of ws a) s (words_of ws b) t e in record { lengths = y.0; bits = y.1 }

  agreed : Agree W (words_of ws a) s (words_of ws b) t → same ≡ true
  agreed g = yes_equal W (words_of ws a) s (words_of ws b) t g.lengths g.bits

  -- What is answered is so.
  pub says_yes_agree : answer W (equal a s b t) ws ≡ says_yes → Agree W (words_of ws a) s (words_of ws b) t
  unfolding answer answer!
  says_yes_agree e = agreeing (yes_behind (verdict (cases W (length ws) (equal a s b t))) same e)

  pub says_no_differ : answer W (equal a s b t) ws ≡ says_no → Agree W (words_of ws a) s (words_of ws b) t → ⊥
  unfolding answer answer!
  says_no_differ e g = no_behind (verdict (cases W (length ws) (equal a s b t))) same e (agreed g)

  -- What is so is answered, unless it is refused.
  module _ (fine : verdict (pair_cases W (lent_of (length ws) a) s (lent_of (length ws) b) t) ≡ Ok tt) where
    pub agree_says_yes : Agree W (words_of ws a) s (words_of ws b) t → answer W (equal a s b t) ws ≡ says_yes
    unfolding cases answer!
    agree_says_yes g = (accepted_call W (equal a s b t) ws fine).0 ∙ ap (λ (x : Bool). cond x says_yes says_no) (agreed g)

    pub differ_says_no : (Agree W (words_of ws a) s (words_of ws b) t → ⊥) → answer W (equal a s b t) ws ≡ says_no
    unfolding cases answer!
    differ_says_no n = (accepted_call W (equal a s b t) ws fine).0 ∙ not_yes same (λ e. n (agreeing e))

    -- Unequal lengths answer no.
    pub unequal_says_no : (s.len ≡ t.len → ⊥) → answer W (equal a s b t) ws ≡ says_no
    unequal_says_no n = differ_says_no (λ g. n g.lengths)
