-- No refusal depends on the bits held: calls that are one but for the bits of lent words, in either buffer, have one verdict, and where one is
-- refused the other is, by the same number. Assumes nothing.
use Prim.Native.Nat.{ℕ, zero, suc}
use mathlib.Core.Path.{◌≡◌, refl, sym, ap, ap₂, ◌∙◌}
use mathlib.Core.Bool.{Bool, true, false, cond}
use mathlib.Core.List.{List, map}
use native.Mathlib.Omega.{arith}
use lib.ListN.{length, length-map}
use lib.Dec.{ltb}
use Rattle.rules.specs.Types.{Span, Refusal, Verdict, Ok, Err}
use Rattle.rules.specs.Rows.{same_spans, first_with, last_with}
use Rattle.rules.specs.Positions.{span_bit}
use Rattle.rules.specs.Refusals.{number, verdict, pair_cases, copy_cases}
use Rattle.rules.specs.Calls.{refused, done, says_yes, says_no, found_at, absent, said, Side, here, there, words_of, lent_of, first_found, last_found, Call, read_bit, write_bit, load, store, store_strict, copy_from, copy_within, boolean, equal, find_first, find_last, cases, answer!, answer, swap_verdict, swap_answer}

-- words with no bit set
abbrev pub blank : List ℕ → List ℕ
blank vs = map (λ _. 0) vs

-- a call whose second buffer's bits are forgotten, their number kept
abbrev pub blank_side : Side → Side
blank_side here = here
blank_side (there vs) = there (blank vs)

abbrev pub blank_call : Call → Call
blank_call (read_bit s i) = read_bit s i
blank_call (write_bit s i b) = write_bit s i b
blank_call (load s K e g) = load s K e g
blank_call (store s K e g v) = store s K e g v
blank_call (store_strict s K e g v) = store_strict s K e g v
blank_call (copy_from s vs t) = copy_from s (blank vs) t
blank_call (copy_within s from count to) = copy_within s from count to
blank_call (boolean op s vs t) = boolean op s (blank vs) t
blank_call (equal a s b t) = equal (blank_side a) s (blank_side b) t
blank_call (find_first v s) = find_first v s
blank_call (find_last v s) = find_last v s

length_blank : (vs : List ℕ) → length (blank vs) ≡ length vs
length_blank vs = length-map vs (λ _. 0)

lent_blank : (n : ℕ) (a : Side) → lent_of n (blank_side a) ≡ lent_of n a
lent_blank n here = refl
lent_blank n (there vs) = length_blank vs

-- the table of a call has nothing of the second buffer's bits
cases_blank : (W n : ℕ) (c : Call) → cases W n (blank_call c) ≡ cases W n c
unfolding cases
cases_blank W n (read_bit s i) = refl
cases_blank W n (write_bit s i b) = refl
cases_blank W n (load s K e g) = refl
cases_blank W n (store s K e g v) = refl
cases_blank W n (store_strict s K e g v) = refl
cases_blank W n (copy_from s vs t) = ap (λ (m : ℕ). copy_cases W n s m t) (length_blank vs)
cases_blank W n (copy_within s from count to) = refl
cases_blank W n (boolean op s vs t) = ap (λ (m : ℕ). pair_cases W n s m t) (length_blank vs)
cases_blank W n (equal a s b t) = ap₂ (λ (m k : ℕ). pair_cases W m s k t) (lent_blank n a) (lent_blank n b)
cases_blank W n (find_first v s) = refl
cases_blank W n (find_last v s) = refl

-- Equal numbers of words, the same verdict.
pub same_verdict : (W : ℕ) (c d : Call) (ws vs : List ℕ) → blank_call c ≡ blank_call d → length ws ≡ length vs
    → verdict (cases W (length ws) c) ≡ verdict (cases W (length vs) d)
same_verdict W c d ws vs e l =
    ap verdict (sym (cases_blank W (length ws) c)) ∙ ap₂ (λ (n : ℕ) (x : Call). verdict (cases W n x)) l e ∙ ap verdict (cases_blank W (length vs) d)

-- an accepted call answers no refusal
found_unrefused : (n i m : ℕ) → first_found n i ≡ refused m → ⊥
found_unrefused n i m e = go (ltb i n) e
  where
    go : (b : Bool) → cond b (found_at i) absent ≡ refused m → ⊥
    go true e = let z : ◌≡◌ {A = ℕ} 0 1 = cc in omega arith
    go false e = let z : ◌≡◌ {A = ℕ} 0 1 = cc in omega arith

last_unrefused : (i m : ℕ) → last_found i ≡ refused m → ⊥
last_unrefused zero m e = let z : ◌≡◌ {A = ℕ} 0 1 = cc in omega arith
last_unrefused (suc i) m e = let z : ◌≡◌ {A = ℕ} 0 1 = cc in omega arith

equal_unrefused : (b : Bool) (m : ℕ) → cond b says_yes says_no ≡ refused m → ⊥
equal_unrefused true m e = let z : ◌≡◌ {A = ℕ} 0 1 = cc in omega arith
equal_unrefused false m e = let z : ◌≡◌ {A = ℕ} 0 1 = cc in omega arith

unrefused : (W : ℕ) (c : Call) (ws : List ℕ) (m : ℕ) → answer! W c ws ≡ refused m → ⊥
unfolding answer!
unrefused W (read_bit s i) ws m e = let z : ◌≡◌ {A = ℕ} 0 1 = cc in omega arith
unrefused W (write_bit s i b) ws m e = let z : ◌≡◌ {A = ℕ} 0 1 = cc in omega arith
unrefused W (load s K e' g) ws m e = let z : ◌≡◌ {A = ℕ} 0 1 = cc in omega arith
unrefused W (store s K e' g v) ws m e = let z : ◌≡◌ {A = ℕ} 0 1 = cc in omega arith
unrefused W (store_strict s K e' g v) ws m e = let z : ◌≡◌ {A = ℕ} 0 1 = cc in omega arith
unrefused W (copy_from s vs t) ws m e = let z : ◌≡◌ {A = ℕ} 0 1 = cc in omega arith
unrefused W (copy_within s from count to) ws m e = let z : ◌≡◌ {A = ℕ} 0 1 = cc in omega arith
unrefused W (boolean op s vs t) ws m e = let z : ◌≡◌ {A = ℕ} 0 1 = cc in omega arith
unrefused W (equal a s b t) ws m e = equal_unrefused (same_spans W (words_of ws a) s (words_of ws b) t) m e
unrefused W (find_first v s) ws m e = found_unrefused s.len (first_with s.len (span_bit W ws s) v) m e
unrefused W (find_last v s) ws m e = last_unrefused (last_with s.len (span_bit W ws s) v) m e

-- The same number is answered, or neither is refused.
pub same_refusal : (W : ℕ) (c d : Call) (ws vs : List ℕ) (m : ℕ) → blank_call c ≡ blank_call d → length ws ≡ length vs → answer W c ws ≡ refused m → answer W d vs ≡ refused m
unfolding answer
same_refusal W c d ws vs m e l h = go (verdict (cases W (length ws) c)) (verdict (cases W (length vs) d)) (same_verdict W c d ws vs e l) h
  where
    go : (v w : Verdict) → v ≡ w → said v (answer! W c ws) ≡ refused m → said w (answer! W d vs) ≡ refused m
    go (Ok _) w q h = absurd (unrefused W c ws m h)
    go (Err r) (Ok _) q h = let z : ◌≡◌ {A = ℕ} 0 1 = cc in absurd (omega arith)
    go (Err r) (Err r') q h = let z : r ≡ r' = cc in ap (λ (x : Refusal). refused (number x)) (sym z) ∙ h

-- and of a swap: one verdict, one answer
pub same_swap : (W : ℕ) (s t : Span) (ws ws' vs vs' : List ℕ) → length ws ≡ length ws' → length vs ≡ length vs'
    → (swap_verdict W ws s vs t ≡ swap_verdict W ws' s vs' t) × (swap_answer W ws s vs t ≡ swap_answer W ws' s vs' t)
unfolding swap_answer swap_verdict
same_swap W s t ws ws' vs vs' l k =
    let e : verdict (copy_cases W (length ws) s (length vs) t) ≡ verdict (copy_cases W (length ws') s (length vs') t) = ap₂ (λ (n m : ℕ). verdict (copy_cases W n s m t)) l k in
    (e, ap (λ (v : Verdict). said v done) e)
