-- The mission's third demand, and P14's free order, for document 01's one-buffer calls at any width. Assumes nothing.
use Prim.Native.Nat.{ℕ, suc, ◌<◌}
use mathlib.Core.Path.{◌≡◌, refl, sym, ◌∙◌, ap, ap₂, subst}
use mathlib.Core.Bool.{Bool, true, false, ◌||◌, true≢false, or-true}
use mathlib.Core.List.{List, [], ◌∷◌, ◌++◌}
use lib.ListN.{length}
use Rattle.rules.specs.Types.{Verdict, Ok, Err}
use Rattle.rules.specs.Bits.{bit_at}
use Rattle.rules.specs.Refusals.{verdict}
use Rattle.rules.specs.Calls.{Call, Answer, cases, answer, after, reads!, writes!, reads, writes, unless}
use Rattle.rules.specs.Mixtures.{Party, Of, of, hers, All, answers, final, mixed_answers, mixed_final, Asked, call, no_call, told, left, Separate, Within, Isolated}
use Rattle.rules.proofs.Isolation.Parties.{Rules, Keeps, Apart, agree, alone, unowned, first_answer, second_answer, swapped_bit}
use Rattle.rules.proofs.Rows.Row.{Words, buffers_ext}
use Rattle.rules.proofs.Isolation.Footprints.{rules, words_after, length_after}

module _ (W : ℕ) (wide : 0 < W) where
  gate : (k : Verdict) {b : Bool} → unless k b false ≡ true → (k ≡ Ok tt) × (b ≡ true)
  gate (Ok _) e = (refl, e)
  gate (Err r) e = absurd (true≢false (sym e))

  -- what is asked reads and writes what its call does, or nothing
  abbrev reads_of : ℕ → Asked → ℕ → Bool
  reads_of n (call c) q = reads W n c q
  reads_of n no_call q = false

  abbrev writes_of : ℕ → Asked → ℕ → Bool
  writes_of n (call c) q = writes W n c q
  writes_of n no_call q = false

  module _ (n : ℕ) where
    lent : (a : Asked) (ws : List ℕ) → length ws ≡ n → length (left W a ws) ≡ n
    lent (call c) ws l = (rules W wide n).lent_after c ws l
    lent no_call ws l = l

    framed : (a : Asked) (ws : List ℕ) → length ws ≡ n → (q : ℕ) → writes_of n a q ≡ false → bit_at W (left W a ws) q ≡ bit_at W ws q
    framed (call c) ws l q e = (rules W wide n).frame c ws l q e
    framed no_call ws l q e = refl

    same_told : (a : Asked) (ws vs : List ℕ) → length ws ≡ n → length vs ≡ n → ((q : ℕ) → reads_of n a q ≡ true → bit_at W ws q ≡ bit_at W vs q) → told W a ws ≡ told W a vs
    same_told (call c) ws vs l k e = (rules W wide n).local_answer c ws vs l k e
    same_told no_call ws vs l k e = refl

    same_left : (a : Asked) (ws vs : List ℕ) → length ws ≡ n → length vs ≡ n → ((q : ℕ) → reads_of n a q ≡ true → bit_at W ws q ≡ bit_at W vs q)
        → (q : ℕ) → writes_of n a q ≡ true → bit_at W (left W a ws) q ≡ bit_at W (left W a vs) q
    same_left (call c) ws vs l k e q w = (rules W wide n).local_bit c ws vs l k e q w
    same_left no_call ws vs l k e q w = absurd (true≢false (sym w))

    asked_rules : Rules (λ ws. length ws ≡ n) (bit_at W) (told W) (left W) (reads_of n) (writes_of n)
    asked_rules = record { lent_after = lent; frame = framed; local_answer = same_told; local_bit = same_left }

    kept : (Own : Party → ℕ → Type 0) (p : Party) (a : Asked) → Within W n Own p a → Keeps (reads_of n) (writes_of n) (Own p) a
    unfolding reads writes
    kept Own p (call c) h = record {
      read = λ q e. let g = gate (verdict (cases W n c)) e in h g.0 q (ap (λ x. x || writes! W c q) g.1);
      written = λ q e. let g = gate (verdict (cases W n c)) e in h g.0 q (ap (λ x. reads! W c q || x) g.1 ∙ or-true (reads! W c q));
    }
    kept Own p no_call h = record { read = λ q e. absurd (true≢false (sym e)); written = λ q e. absurd (true≢false (sym e)) }

    all_kept : (Own : Party → ℕ → Type 0) (t : List (Of Asked)) → All (Within W n Own) t → All (λ p a. Keeps (reads_of n) (writes_of n) (Own p) a) t
    all_kept Own [] h = tt
    all_kept Own (of p a ∷ t) h = (kept Own p a h.0, all_kept Own t h.1)

  -- DEMAND 3
  pub isolation : (ws : List ℕ) (Own : Party → ℕ → Type 0) → Separate Own → (t : List (Of Asked)) → All (Within W (length ws) Own) t → Isolated W ws Own t
  isolation ws Own separate t h = record {
    same_answers = λ p. (alone (asked_rules (length ws)) Own separate p t (all_kept (length ws) Own t h) ws refl).0;
    same_bits = λ p. (alone (asked_rules (length ws)) Own separate p t (all_kept (length ws) Own t h) ws refl).1;
    others_stay = unowned (asked_rules (length ws)) Own separate t (all_kept (length ws) Own t h) ws refl;
  }

  -- The same from two buffers that agree where the party owns: nothing of the other's bits, or of unowned ones, reaches it.
  pub isolation_from : (ws vs : List ℕ) → length ws ≡ length vs → (Own : Party → ℕ → Type 0) → Separate Own
      → (t : List (Of Asked)) → All (Within W (length ws) Own) t → (p : Party) → ((q : ℕ) → Own p q → bit_at W ws q ≡ bit_at W vs q)
      → (hers p (mixed_answers (told W) (left W) t ws) ≡ answers (told W) (left W) (hers p t) vs)
      × ((q : ℕ) → Own p q → bit_at W (mixed_final (told W) (left W) t ws) q ≡ bit_at W (final (told W) (left W) (hers p t) vs) q)
  isolation_from ws vs l Own separate t h p same = agree (asked_rules (length ws)) Own separate p t (all_kept (length ws) Own t h) ws vs refl (sym l) same

  -- P14: neither call writes a position that the other reads or writes (a refused call reads and writes none)
  abbrev pub FreeOf : ℕ → Call → Call → Type 0
  FreeOf n = Apart (reads W n) (writes W n)

  pub record Exchanged (ws : List ℕ) (c d : Call) : Type 0 where
    pub first_same : answer W c (after W d ws) ≡ answer W c ws
    pub second_same : answer W d (after W c ws) ≡ answer W d ws
    pub buffer_same : after W d (after W c ws) ≡ after W c (after W d ws)

  pub exchanged : (ws : List ℕ) → Words W ws → (c d : Call) → FreeOf (length ws) c d → Exchanged ws c d
  exchanged ws h c d free = record {
    first_same = first_answer (rules W wide (length ws)) c d free ws refl;
    second_same = second_answer (rules W wide (length ws)) c d free ws refl;
    buffer_same = buffers_ext W (after W d (after W c ws)) (after W c (after W d ws))
        (length_after W wide d (after W c ws) ∙ length_after W wide c ws ∙ sym (length_after W wide c (after W d ws) ∙ length_after W wide d ws))
        (words_after W wide d _ (words_after W wide c ws h)) (words_after W wide c _ (words_after W wide d ws h))
        (swapped_bit (rules W wide (length ws)) c d free ws refl);
  }

  -- anywhere in a list of calls: the buffer at the end is the same, and so are all answers, the two having changed places
  pub neighbours_final : (s t : List Call) (c d : Call) (ws : List ℕ) → Words W ws → FreeOf (length ws) c d
      → final (answer W) (after W) (s ++ c ∷ d ∷ t) ws ≡ final (answer W) (after W) (s ++ d ∷ c ∷ t) ws
  unfolding final
  neighbours_final [] t c d ws h free = ap (final (answer W) (after W) t) (exchanged ws h c d free).buffer_same
  neighbours_final (b ∷ s) t c d ws h free = neighbours_final s t c d (after W b ws) (words_after W wide b ws h)
      (subst (λ n. FreeOf n c d) (sym (length_after W wide b ws)) free)

  pub neighbours_answers : (s t : List Call) (c d : Call) (ws : List ℕ) → Words W ws → FreeOf (length ws) c d
      → (before : List Answer) × (x : Answer) × (y : Answer) × (rest : List Answer) × (answers (answer W) (after W) (s ++ c ∷ d ∷ t) ws ≡ before ++ x ∷ y ∷ rest)
      × (answers (answer W) (after W) (s ++ d ∷ c ∷ t) ws ≡ before ++ y ∷ x ∷ rest) × (length before ≡ length s)
  unfolding answers
  neighbours_answers [] t c d ws h free =
      let e = exchanged ws h c d free in (
        [],
        answer W c ws,
        answer W d (after W c ws),
        answers (answer W) (after W) t (after W d (after W c ws)),
        refl,
        (ap₂ (λ y r. y ∷ r) (sym e.second_same) (ap₂ (λ x r. x ∷ r) e.first_same (ap (answers (answer W) (after W) t) (sym e.buffer_same)))),
        refl,
      )
  neighbours_answers (b ∷ s) t c d ws h free =
      let (l, x, y, r, e, f, n) = neighbours_answers s t c d (after W b ws) (words_after W wide b ws h) (subst (λ n. FreeOf n c d) (sym (length_after W wide b ws)) free) in
      (answer W b ws ∷ l, x, y, r, ap (λ z. answer W b ws ∷ z) e, ap (λ z. answer W b ws ∷ z) f, ap suc n)
