-- Document 01's sentences about the four searches, from what they answer: a found bit has the value, none before (after) it has, and absent is
-- said exactly if there is no such bit. Assumes nothing.
use mathlib.Core.Path.{◌≡◌, refl, ◌∙◌}
use mathlib.Core.Logic.{◌≢◌}
use mathlib.Core.Bool.{Bool, true, false, cond}
use mathlib.Core.List.{List}
use Prim.Native.Nat.{ℕ, zero, suc, ◌≤◌, ◌<◌}
use native.Mathlib.Omega.{arith}
use lib.Dec.{ltb}
use lib.ListN.{length}
use borrow.Author.Tests.{ltb-true, ltb-false}
use Rattle.rules.specs.Types.{Span, Verdict, Ok, Err}
use Rattle.rules.specs.Positions.{span_bit}
use Rattle.rules.specs.Rows.{first_with, last_with}
use Rattle.rules.specs.Refusals.{verdict, span_cases}
use Rattle.rules.specs.Calls.{Answer, found_at, absent, said, Call, find_first, find_last, first_found, last_found, cases, answer!, answer}
use Rattle.rules.proofs.Searches.Search.{first_here, first_free, last_here, last_free, last_le}
use Rattle.rules.proofs.Sentences.Sentences.{first_at, first_absent, last_at, last_absent}
use Rattle.rules.proofs.Searches.SearchAnswers.{first_said, last_said}

-- what a found bit is: the first, and the last
pub record First (n : ℕ) (b : ℕ → ℕ) (v i : ℕ) : Type 0 where
  pub below : i < n
  pub has : b i ≡ v
  pub none_before : (j : ℕ) → j < i → b j ≢ v

pub record Last (n : ℕ) (b : ℕ → ℕ) (v i : ℕ) : Type 0 where
  pub below : i < n
  pub has : b i ≡ v
  pub none_after : (j : ℕ) → i < j → j < n → b j ≢ v

abbrev pub None : ℕ → (ℕ → ℕ) → ℕ → Type 0
None n b v = (j : ℕ) → j < n → b j ≢ v

-- an answer found or absent stands behind `Ok`
behind_found : (x : Verdict) (a : Answer) (i : ℕ) → said x a ≡ found_at i → a ≡ found_at i
behind_found (Ok _) a i e = e
behind_found (Err r) a i e = let z : ◌≡◌ {A = ℕ} 0 1 = cc in absurd (omega arith)

behind_absent : (x : Verdict) (a : Answer) → said x a ≡ absent → a ≡ absent
behind_absent (Ok _) a e = e
behind_absent (Err r) a e = let z : ◌≡◌ {A = ℕ} 0 1 = cc in absurd (omega arith)

first_found_at : (n k i : ℕ) → first_found n k ≡ found_at i → (k ≡ i) × (k < n)
first_found_at n k i e = go (ltb k n) refl e
  where
    go : (t : Bool) → ltb k n ≡ t → cond t (found_at k) absent ≡ found_at i → (k ≡ i) × (k < n)
    go true p q = (cc, ltb-true k n p)
    go false p q = let z : ◌≡◌ {A = ℕ} 0 1 = cc in absurd (omega arith)

first_not_found : (n k : ℕ) → first_found n k ≡ absent → n ≤ k
first_not_found n k e = go (ltb k n) refl e
  where
    go : (t : Bool) → ltb k n ≡ t → cond t (found_at k) absent ≡ absent → n ≤ k
    go true p q = let z : ◌≡◌ {A = ℕ} 0 1 = cc in absurd (omega arith)
    go false p q = ltb-false k n p

last_found_at : (k i : ℕ) → last_found k ≡ found_at i → suc i ≡ k
last_found_at zero i e = let z : ◌≡◌ {A = ℕ} 0 1 = cc in absurd (omega arith)
last_found_at (suc k) i e = cc

last_not_found : (k : ℕ) → last_found k ≡ absent → k ≡ 0
last_not_found zero e = refl
last_not_found (suc k) e = let z : ◌≡◌ {A = ℕ} 0 1 = cc in absurd (omega arith)

module _ (W v : ℕ) (s : Span) (ws : List ℕ) where
  abbrev n : ℕ
  n = s.len

  abbrev b : ℕ → ℕ
  b = span_bit W ws s

  abbrev table : Call → Verdict
  table c = verdict (cases W (length ws) c)

  -- ---- what is answered is so

  pub first_found_is : (i : ℕ) → answer W (find_first v s) ws ≡ found_at i → First s.len (span_bit W ws s) v i
  unfolding answer answer!
  first_found_is i e =
      let p = first_found_at n (first_with n b v) i (behind_found (table (find_first v s)) _ i e) in
      record { below = omega arith; has = rw p.0 at (first_here n b v p.1); none_before = λ j l. first_free n b v j (omega arith) }

  pub first_absent_is : answer W (find_first v s) ws ≡ absent → None s.len (span_bit W ws s) v
  unfolding answer answer!
  first_absent_is e =
      let p = first_not_found n (first_with n b v) (behind_absent (table (find_first v s)) _ e) in
      λ j l. first_free n b v j (omega arith)

  pub last_found_is : (i : ℕ) → answer W (find_last v s) ws ≡ found_at i → Last s.len (span_bit W ws s) v i
  unfolding answer answer!
  last_found_is i e =
      let p = last_found_at (last_with n b v) i (behind_found (table (find_last v s)) _ i e) in
      record { below = omega (arith, last_le n b v); has = last_here n b v i p; none_after = λ j l m. last_free n b v j (omega arith) m }

  pub last_absent_is : answer W (find_last v s) ws ≡ absent → None s.len (span_bit W ws s) v
  unfolding answer answer!
  last_absent_is e =
      let p = last_not_found (last_with n b v) (behind_absent (table (find_last v s)) _ e) in
      λ j l. last_free n b v j (omega arith) l

  -- ---- what is so is answered, unless the span is refused

  module _ (fine : verdict (span_cases W (length ws) s) ≡ Ok tt) where
    pub first_answered : (i : ℕ) → First s.len (span_bit W ws s) v i → answer W (find_first v s) ws ≡ found_at i
    first_answered i f = first_said W v s ws fine ∙ first_at n b v i f.below f.has f.none_before

    pub no_first_answered : None s.len (span_bit W ws s) v → answer W (find_first v s) ws ≡ absent
    no_first_answered f = first_said W v s ws fine ∙ first_absent n b v f

    pub last_answered : (i : ℕ) → Last s.len (span_bit W ws s) v i → answer W (find_last v s) ws ≡ found_at i
    last_answered i f = last_said W v s ws fine ∙ last_at n b v i f.below f.has f.none_after

    pub no_last_answered : None s.len (span_bit W ws s) v → answer W (find_last v s) ws ≡ absent
    no_last_answered f = last_said W v s ws fine ∙ last_absent n b v f

    -- An empty span answers absent.
    pub empty_absent : s.len ≡ 0 → (answer W (find_first v s) ws ≡ absent) × (answer W (find_last v s) ws ≡ absent)
    empty_absent e = (no_first_answered (λ j l. absurd (omega arith)), no_last_answered (λ j l. absurd (omega arith)))
