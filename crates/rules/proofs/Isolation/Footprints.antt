-- Document 01's one-buffer calls obey the `Rules` of `Parties`, at any width above 0 and any number of words. Assumes nothing.
use Prim.Native.Nat.{ℕ, zero, suc, ◌+◌, ◌-◌, ◌*◌, ◌%◌, ◌<◌}
use mathlib.Core.Path.{◌≡◌, refl, sym, ◌∙◌, ap, ap₂}
use mathlib.Core.Bool.{Bool, true, false, ◌&&◌, ◌||◌, cond, true≢false, or-true}
use mathlib.Core.List.{List, [], ◌∷◌}
use native.Mathlib.Nat.{add-zero}
use native.Mathlib.Decide.{dec_lt}
use native.Mathlib.Omega.{arith}
use lib.ListN.{length, get_or}
use lib.Dec.{eqb}
use borrow.Author.Tests.{eqb-true}
use Rattle.rules.specs.Types.{Order, Span, Verdict, Ok, Err, Lsb0, Msb0}
use Rattle.rules.specs.Bits.{bit_n, bit_at}
use Rattle.rules.specs.Positions.{mirror, row, start, span_bit, within, over, spliced, covers, position}
use Rattle.rules.specs.Fields.{load_of, read_as, store_of}
use Rattle.rules.specs.Rows.{copied, moved, copied_within, applied, right_bit, combined, same_bits, same_spans}
use Rattle.rules.specs.Refusals.{verdict}
use Rattle.rules.specs.Calls.{says_yes, says_no, a_bit, a_number, said, unless, Side, here, there, Call, read_bit, write_bit, load, store, store_strict, copy_from, copy_within, boolean, equal, find_first, find_last, words_of, first_found, last_found, span_covers, side_reads, cases, answer!, after!, reads!, writes!, answer, after, reads, writes}
use Rattle.rules.proofs.Isolation.Parties.{Rules}
use Rattle.rules.proofs.Bits.Weigh.{weigh_ext}
use Rattle.rules.proofs.Rows.Row.{Words, bit_at_at, bit_row, bit_at_past, row_bit, mirror_lt}
use Rattle.rules.proofs.Rows.Splice.{length_spliced, words_spliced, row_spliced}
use Rattle.rules.proofs.Searches.Search.{first_ext, last_ext}
use Rattle.rules.proofs.Rows.Spans.{within_low, within_high, covers_at}
use Rattle.rules.specs.Samples.{at_head}

-- copy inside of two bits from 0 to 4 reads position 1 and not 5, and writes 5 and not 1; a boolean call reads and writes the left span
footprints :
    reads! 8 (copy_within (at_head Lsb0 0 8) 0 2 4) 1 ∷ reads! 8 (copy_within (at_head Lsb0 0 8) 0 2 4) 5 ∷ writes! 8 (copy_within (at_head Lsb0 0 8) 0 2 4) 1
    ∷ writes! 8 (copy_within (at_head Lsb0 0 8) 0 2 4) 5 ∷ reads! 8 (boolean 6 (at_head Msb0 0 4) (0 ∷ []) (at_head Msb0 0 4)) 7
    ∷ writes! 8 (boolean 6 (at_head Msb0 0 4) (0 ∷ []) (at_head Msb0 0 4)) 7 ∷ writes! 8 (boolean 6 (at_head Msb0 0 4) (0 ∷ []) (at_head Msb0 0 4)) 3 ∷ []
    ≡ true ∷ false ∷ false ∷ true ∷ true ∷ true ∷ false ∷ []
unfolding reads! writes! covers within mirror position start
footprints = refl

module _ (W : ℕ) (pos : 0 < W) where
  -- ---- what a splice writes, by real positions

  over_off : (at n : ℕ) (b g : ℕ → ℕ) (j : ℕ) → within at n j ≡ false → over at n b g j ≡ g j
  unfolding over
  over_off at n b g j e = ap (λ (t : Bool). cond t (b (j - at)) (g j)) e

  over_on : (at n : ℕ) (b g : ℕ → ℕ) (j : ℕ) → within at n j ≡ true → over at n b g j ≡ b (j - at)
  unfolding over
  over_on at n b g j e = ap (λ (t : Bool). cond t (b (j - at)) (g j)) e

  spliced_at : (o : Order) (ws : List ℕ) (at n : ℕ) (b : ℕ → ℕ) (q : ℕ) → q < length ws * W
      → bit_at W (spliced W o ws at n b) q ≡ over at n b (row W o ws) (mirror W o q) % 2
  spliced_at o ws at n b q h = bit_row W pos o (spliced W o ws at n b) q ∙ row_spliced W pos o ws at n b (mirror W o q) (mirror_lt W pos o (length ws) q h)

  -- a bit outside stays, also past the end of the buffer
  pub spliced_outside : (o : Order) (ws : List ℕ) (at n : ℕ) (b : ℕ → ℕ) (q : ℕ) → covers W o at n q ≡ false → bit_at W (spliced W o ws at n b) q ≡ bit_at W ws q
  unfolding covers
  spliced_outside o ws at n b q e = go (dec_lt q (length ws * W))
    where
      go : Dec (q < length ws * W) → bit_at W (spliced W o ws at n b) q ≡ bit_at W ws q
      go (yes l) =
          spliced_at o ws at n b q l ∙ ap (λ (x : ℕ). x % 2) (over_off at n b (row W o ws) (mirror W o q) e)
          ∙ row_bit W o ws (mirror W o q) ∙ sym (bit_row W pos o ws q)
      go (no l) = bit_at_past W pos (spliced W o ws at n b) q (rw (length_spliced W o ws at n b) (omega arith)) ∙ sym (bit_at_past W pos ws q (omega arith))

  -- inside it, the bits after two splices of equally long buffers agree where what is spliced in agrees
  pub spliced_agrees : (o : Order) (ws vs : List ℕ) (at n : ℕ) (b d : ℕ → ℕ) (q : ℕ) → length ws ≡ length vs → ((i : ℕ) → i < n → b i ≡ d i)
      → covers W o at n q ≡ true → bit_at W (spliced W o ws at n b) q ≡ bit_at W (spliced W o vs at n d) q
  unfolding covers
  spliced_agrees o ws vs at n b d q len same e = go (dec_lt q (length ws * W))
    where
      small : mirror W o q - at < n
      small = let lo = within_low at n (mirror W o q) e in let hi = within_high at n (mirror W o q) e in omega arith

      go : Dec (q < length ws * W) → bit_at W (spliced W o ws at n b) q ≡ bit_at W (spliced W o vs at n d) q
      go (yes l) =
          spliced_at o ws at n b q l
          ∙ ap (λ (x : ℕ). x % 2) (over_on at n b (row W o ws) (mirror W o q) e ∙ same (mirror W o q - at) small ∙ sym (over_on at n d (row W o vs) (mirror W o q) e))
          ∙ sym (spliced_at o vs at n d q (rw (← len) l))
      go (no l) =
          bit_at_past W pos (spliced W o ws at n b) q (rw (length_spliced W o ws at n b) (omega arith))
          ∙ sym (bit_at_past W pos (spliced W o vs at n d) q (rw (length_spliced W o vs at n d, ← len) (omega arith)))

  -- ---- two buffers that agree on the positions of a run of places have the same bits there

  row_same : (o : Order) (ws vs : List ℕ) (at n : ℕ) → ((q : ℕ) → covers W o at n q ≡ true → bit_at W ws q ≡ bit_at W vs q) → (i : ℕ) → i < n → row W o ws (at + i) ≡ row W o vs (at + i)
  unfolding row
  row_same o ws vs at n a i l = a (mirror W o (at + i)) (covers_at W pos o at n i l)

  span_same : (ws vs : List ℕ) (s : Span) → ((q : ℕ) → span_covers W s q ≡ true → bit_at W ws q ≡ bit_at W vs q) → (i : ℕ) → i < s.len → span_bit W ws s i ≡ span_bit W vs s i
  unfolding span_bit
  span_same ws vs s a i l = row_same s.order ws vs (start W s) s.len a i l

  -- ---- frame

  frame! : (c : Call) (ws : List ℕ) (q : ℕ) → writes! W c q ≡ false → bit_at W (after! W c ws) q ≡ bit_at W ws q
  unfolding writes! after! store_of copied copied_within moved combined
  frame! (read_bit s i) ws q e = refl
  frame! (write_bit s i b) ws q e = spliced_outside s.order ws (start W s + i) 1 _ q e
  frame! (load s K d g) ws q e = refl
  frame! (store s K d g v) ws q e = spliced_outside s.order ws (start W s) s.len _ q e
  frame! (store_strict s K d g v) ws q e = spliced_outside s.order ws (start W s) s.len _ q e
  frame! (copy_from s vs t) ws q e = spliced_outside s.order ws (start W s) s.len _ q e
  frame! (copy_within s from count to) ws q e = spliced_outside s.order ws (start W s + to) count _ q e
  frame! (boolean op s vs t) ws q e = spliced_outside s.order ws (start W s) s.len _ q e
  frame! (equal a s b t) ws q e = refl
  frame! (find_first v s) ws q e = refl
  frame! (find_last v s) ws q e = refl

  length! : (c : Call) (ws : List ℕ) → length (after! W c ws) ≡ length ws
  unfolding after! store_of copied copied_within moved combined
  length! (read_bit s i) ws = refl
  length! (write_bit s i b) ws = length_spliced W s.order ws (start W s + i) 1 _
  length! (load s K d g) ws = refl
  length! (store s K d g v) ws = length_spliced W s.order ws (start W s) s.len _
  length! (store_strict s K d g v) ws = length_spliced W s.order ws (start W s) s.len _
  length! (copy_from s vs t) ws = length_spliced W s.order ws (start W s) s.len _
  length! (copy_within s from count to) ws = length_spliced W s.order ws (start W s + to) count _
  length! (boolean op s vs t) ws = length_spliced W s.order ws (start W s) s.len _
  length! (equal a s b t) ws = refl
  length! (find_first v s) ws = refl
  length! (find_last v s) ws = refl

  words! : (c : Call) (ws : List ℕ) → Words W ws → Words W (after! W c ws)
  unfolding after! store_of copied copied_within moved combined
  words! (read_bit s i) ws h = h
  words! (write_bit s i b) ws h = words_spliced W s.order ws (start W s + i) 1 _
  words! (load s K d g) ws h = h
  words! (store s K d g v) ws h = words_spliced W s.order ws (start W s) s.len _
  words! (store_strict s K d g v) ws h = words_spliced W s.order ws (start W s) s.len _
  words! (copy_from s vs t) ws h = words_spliced W s.order ws (start W s) s.len _
  words! (copy_within s from count to) ws h = words_spliced W s.order ws (start W s + to) count _
  words! (boolean op s vs t) ws h = words_spliced W s.order ws (start W s) s.len _
  words! (equal a s b t) ws h = h
  words! (find_first v s) ws h = h
  words! (find_last v s) ws h = h

  -- ---- the bits written depend on the bits read alone

  local_bit! : (c : Call) (ws vs : List ℕ) → length ws ≡ length vs → ((q : ℕ) → reads! W c q ≡ true → bit_at W ws q ≡ bit_at W vs q)
      → (q : ℕ) → writes! W c q ≡ true → bit_at W (after! W c ws) q ≡ bit_at W (after! W c vs) q
  unfolding reads! writes! after! store_of copied copied_within moved combined
  local_bit! (read_bit s i) ws vs l a q e = absurd (true≢false (sym e))
  local_bit! (write_bit s i b) ws vs l a q e = spliced_agrees s.order ws vs (start W s + i) 1 _ _ q l (λ i h. refl) e
  local_bit! (load s K d g) ws vs l a q e = absurd (true≢false (sym e))
  local_bit! (store s K d g v) ws vs l a q e = spliced_agrees s.order ws vs (start W s) s.len _ _ q l (λ i h. refl) e
  local_bit! (store_strict s K d g v) ws vs l a q e = spliced_agrees s.order ws vs (start W s) s.len _ _ q l (λ i h. refl) e
  local_bit! (copy_from s us t) ws vs l a q e = spliced_agrees s.order ws vs (start W s) s.len _ _ q l (λ i h. refl) e
  local_bit! (copy_within s from count to) ws vs l a q e =
      spliced_agrees s.order ws vs (start W s + to) count _ _ q l (row_same s.order ws vs (start W s + from) count a) e
  local_bit! (boolean op s us t) ws vs l a q e =
      spliced_agrees s.order ws vs (start W s) s.len _ _ q l (λ i h. ap (λ (x : ℕ). applied op x (right_bit W us t i)) (span_same ws vs s a i h)) e
  local_bit! (equal c s b t) ws vs l a q e = absurd (true≢false (sym e))
  local_bit! (find_first v s) ws vs l a q e = absurd (true≢false (sym e))
  local_bit! (find_last v s) ws vs l a q e = absurd (true≢false (sym e))

  -- ---- and so does the answer

  bits_same : (n : ℕ) (f g f' g' : ℕ → ℕ) → ((i : ℕ) → i < n → f i ≡ f' i) → ((i : ℕ) → i < n → g i ≡ g' i) → same_bits n f g ≡ same_bits n f' g'
  unfolding same_bits
  bits_same zero f g f' g' h k = refl
  bits_same (suc n) f g f' g' h k = ap₂ ◌&&◌ (ap₂ eqb (h n (omega arith)) (k n (omega arith))) (bits_same n f g f' g' (λ i l. h i (omega arith)) (λ i l. k i (omega arith)))

  side_same : (ws vs : List ℕ) (d : Side) (s : Span) → ((q : ℕ) → side_reads W d s q ≡ true → bit_at W ws q ≡ bit_at W vs q)
      → (i : ℕ) → i < s.len → span_bit W (words_of ws d) s i ≡ span_bit W (words_of vs d) s i
  side_same ws vs here s a i l = span_same ws vs s a i l
  side_same ws vs (there us) s a i l = refl

  left_or : (a b : Bool) → a ≡ true → (a || b) ≡ true
  left_or a b e = ap (λ (x : Bool). x || b) e

  right_or : (a b : Bool) → b ≡ true → (a || b) ≡ true
  right_or a b e = ap (λ (x : Bool). a || x) e ∙ or-true a

  same_yes : (n m : ℕ) (f g f' g' : ℕ → ℕ) → ((i : ℕ) → i < n → f i ≡ f' i) → ((i : ℕ) → i < m → g i ≡ g' i) → (eqb n m && same_bits n f g) ≡ (eqb n m && same_bits n f' g')
  same_yes n m f g f' g' h k = go (eqb n m) refl
    where
      go : (b : Bool) → eqb n m ≡ b → (b && same_bits n f g) ≡ (b && same_bits n f' g')
      go true e = let same = eqb-true n m e in bits_same n f g f' g' h (λ i l. k i (omega arith))
      go false e = refl

  local_answer! : (c : Call) (ws vs : List ℕ) → ((q : ℕ) → reads! W c q ≡ true → bit_at W ws q ≡ bit_at W vs q) → answer! W c ws ≡ answer! W c vs
  unfolding reads! answer! load_of span_bit same_spans
  local_answer! (read_bit s i) ws vs a =
      ap a_bit (ap (row W s.order ws) (sym (add-zero (start W s + i))) ∙ row_same s.order ws vs (start W s + i) 1 a 0 (omega arith) ∙ ap (row W s.order vs) (add-zero (start W s + i)))
  local_answer! (write_bit s i b) ws vs a = refl
  local_answer! (load s K d g) ws vs a =
      ap (λ (x : ℕ). a_number (read_as g s.len x)) (weigh_ext s.len _ _ _ (row_same s.order ws vs (start W s) s.len a))
  local_answer! (store s K d g v) ws vs a = refl
  local_answer! (store_strict s K d g v) ws vs a = refl
  local_answer! (copy_from s us t) ws vs a = refl
  local_answer! (copy_within s from count to) ws vs a = refl
  local_answer! (boolean op s us t) ws vs a = refl
  local_answer! (equal c s b t) ws vs a =
      ap (λ (x : Bool). cond x says_yes says_no)
      (same_yes s.len t.len _ _ _ _
      (side_same ws vs c s (λ q e. a q (left_or (side_reads W c s q) (side_reads W b t q) e)))
      (side_same ws vs b t (λ q e. a q (right_or (side_reads W c s q) (side_reads W b t q) e))))
  local_answer! (find_first v s) ws vs a = ap (first_found s.len) (first_ext s.len _ _ v (span_same ws vs s a))
  local_answer! (find_last v s) ws vs a = ap last_found (last_ext s.len _ _ v (span_same ws vs s a))

  -- ---- the same for every call, refused ones too: k is the verdict

  frame_gate : (k : Verdict) (c : Call) (ws : List ℕ) (q : ℕ) → unless k (writes! W c q) false ≡ false → bit_at W (unless k (after! W c ws) ws) q ≡ bit_at W ws q
  frame_gate (Ok _) c ws q e = frame! c ws q e
  frame_gate (Err r) c ws q e = refl

  length_gate : (k : Verdict) (c : Call) (ws : List ℕ) → length (unless k (after! W c ws) ws) ≡ length ws
  length_gate (Ok _) c ws = length! c ws
  length_gate (Err r) c ws = refl

  words_gate : (k : Verdict) (c : Call) (ws : List ℕ) → Words W ws → Words W (unless k (after! W c ws) ws)
  words_gate (Ok _) c ws h = words! c ws h
  words_gate (Err r) c ws h = h

  answer_gate : (k : Verdict) (c : Call) (ws vs : List ℕ) → ((q : ℕ) → unless k (reads! W c q) false ≡ true → bit_at W ws q ≡ bit_at W vs q)
      → said k (answer! W c ws) ≡ said k (answer! W c vs)
  answer_gate (Ok _) c ws vs a = local_answer! c ws vs a
  answer_gate (Err r) c ws vs a = refl

  bit_gate : (k : Verdict) (c : Call) (ws vs : List ℕ) → length ws ≡ length vs → ((q : ℕ) → unless k (reads! W c q) false ≡ true → bit_at W ws q ≡ bit_at W vs q)
      → (q : ℕ) → unless k (writes! W c q) false ≡ true → bit_at W (unless k (after! W c ws) ws) q ≡ bit_at W (unless k (after! W c vs) vs) q
  bit_gate (Ok _) c ws vs l a q e = local_bit! c ws vs l a q e
  bit_gate (Err r) c ws vs l a q e = absurd (true≢false (sym e))

  -- the one-buffer calls on a buffer of n words
  pub rules : (n : ℕ) → Rules (λ ws. length ws ≡ n) (bit_at W) (answer W) (after W) (reads W n) (writes W n)
  unfolding answer after reads writes
  rules n = record {
    lent_after = λ c ws l. length_gate (verdict (cases W (length ws) c)) c ws ∙ l;
    frame = λ c ws l q e. ap (λ (x : ℕ). bit_at W (unless (verdict (cases W x c)) (after! W c ws) ws) q) l ∙ frame_gate (verdict (cases W n c)) c ws q e;
    local_answer = λ c ws vs l k a.
        ap (λ (x : ℕ). said (verdict (cases W x c)) (answer! W c ws)) l
        ∙ answer_gate (verdict (cases W n c)) c ws vs a
        ∙ sym (ap (λ (x : ℕ). said (verdict (cases W x c)) (answer! W c vs)) k);
    local_bit = λ c ws vs l k a q e.
        ap (λ (x : ℕ). bit_at W (unless (verdict (cases W x c)) (after! W c ws) ws) q) l
        ∙ bit_gate (verdict (cases W n c)) c ws vs (l ∙ sym k) a q e
        ∙ sym (ap (λ (x : ℕ). bit_at W (unless (verdict (cases W x c)) (after! W c vs) vs) q) k);
  }

  pub words_after : (c : Call) (ws : List ℕ) → Words W ws → Words W (after W c ws)
  unfolding after
  words_after c ws h = words_gate (verdict (cases W (length ws) c)) c ws h

  pub length_after : (c : Call) (ws : List ℕ) → length (after W c ws) ≡ length ws
  unfolding after
  length_after c ws = length_gate (verdict (cases W (length ws) c)) c ws

  -- What a call does not write stays: the real position p of word k, also in a word that it writes elsewhere.
  pub beside : (c : Call) (ws : List ℕ) (k p : ℕ) → p < W → writes! W c (k * W + p) ≡ false → bit_n (get_or (after W c ws) k 0) p ≡ bit_n (get_or ws k 0) p
  unfolding writes
  beside c ws k p h out =
      sym (bit_at_at W (after W c ws) k p h) ∙ (rules (length ws)).frame c ws refl (k * W + p) (quiet (verdict (cases W (length ws) c))) ∙ bit_at_at W ws k p h
    where
      quiet : (t : Verdict) → unless t (writes! W c (k * W + p)) false ≡ false
      quiet (Ok _) = out
      quiet (Err r) = refl
