-- The calls on fields: their tables joined from those of code, and their answers and memory from what code reads and writes. Assumes nothing.
use mathlib.Core.Path.{◌≡◌, refl, sym, ap, ◌∙◌}
use mathlib.Core.Bool.{true, false, not}
use mathlib.Core.List.{List, [], ◌∷◌, ◌++◌}
use Prim.Native.Nat.{ℕ, ◌%◌, ◌^◌, ◌≤◌, ◌<◌}
use lib.ListN.{length}
use lib.IntN.{ℤ}
use Rattle.laws.specs.Types.{Span, Significance, Sign, Number, Refusal, Verdict, Ok, Err, NotAnInteger, DoesNotFit}
use Rattle.rules.specs.Positions.{start}
use Rattle.rules.specs.Fields.{load_of, store_of, read_as, whole, bits_of, is_integer, fits}
use Rattle.rules.specs.Refusals.{Case, verdict, ◌when◌, span_cases, field_cases, value_cases, fitting_cases, load_cases, store_cases, store_strict_cases}
use Rattle.rules.specs.Calls.{load, store, store_strict, cases, answer!, after!, answer, after, a_number}
use Rattle.rules.specs.Answers.{number_says, write_says, Gives}
use Rattle.rules.proofs.Fields.Field.{store_alike}
use Rattle.rules.proofs.Refusals.Tables.{and_then, verdict_append, goes, fine_parts}
use Rattle.rules.proofs.Sentences.Sentences.{refused_call, accepted_call}

-- ---- load

module _ (W : ℕ) (ws : List ℕ) (s : Span) (K : ℕ) (e : Significance) (g : Sign) where
  pub load_refused : {r : Refusal} → verdict (load_cases W (length ws) s K) ≡ Err r → number_says (Err r) ≡ answer W (load s K e g) ws
  unfolding cases
  load_refused {r} h = sym (refused_call W (load s K e g) ws r h).0

  pub load_done : verdict (load_cases W (length ws) s K) ≡ Ok tt → (v : Number) {u : ℕ} → whole v ≡ read_as g s.len u
      → u ≡ load_of W s.order e ws (start W s) s.len → number_says (Ok v) ≡ answer W (load s K e g) ws
  unfolding cases answer!
  load_done h v p q = ap a_number (p ∙ ap (read_as g s.len) q) ∙ sym (accepted_call W (load s K e g) ws h).0

-- ---- store and strict store

module _ (W : ℕ) (ws : List ℕ) (s : Span) (K : ℕ) (e : Significance) (g : Sign) (v : ℤ) where
  pub store_refused : {r : Refusal} {m : List ℕ} → verdict (store_cases W (length ws) s K g v) ≡ Err r → m ≡ ws
      → Gives W (store s K e g v) ws (write_says (Err r)) m
  unfolding cases
  store_refused {r} h q = let c = refused_call W (store s K e g v) ws r h in record { answers = sym c.0; holds = q ∙ sym c.1 }

  pub store_done : verdict (store_cases W (length ws) s K g v) ≡ Ok tt → 0 < W → s.len ≤ K → {m : List ℕ} (b : ℕ) → b % 2 ^ K ≡ bits_of K v
      → m ≡ store_of W s.order e ws (start W s) s.len b → Gives W (store s K e g v) ws (write_says (Ok tt)) m
  unfolding cases answer! after!
  store_done h w l b p q =
      let c = accepted_call W (store s K e g v) ws h in
      record { answers = sym c.0; holds = q ∙ store_alike W w s.order e ws (start W s) s.len K b l p ∙ sym c.1 }

  pub strict_refused : {r : Refusal} {m : List ℕ} → verdict (store_strict_cases W (length ws) s K g v) ≡ Err r → m ≡ ws
      → Gives W (store_strict s K e g v) ws (write_says (Err r)) m
  unfolding cases
  strict_refused {r} h q = let c = refused_call W (store_strict s K e g v) ws r h in record { answers = sym c.0; holds = q ∙ sym c.1 }

  pub strict_done : verdict (store_strict_cases W (length ws) s K g v) ≡ Ok tt → 0 < W → s.len ≤ K → {m : List ℕ} (b : ℕ) → b % 2 ^ K ≡ bits_of K v
      → m ≡ store_of W s.order e ws (start W s) s.len b → Gives W (store_strict s K e g v) ws (write_says (Ok tt)) m
  unfolding cases answer! after!
  strict_done h w l b p q =
      let c = accepted_call W (store_strict s K e g v) ws h in
      record { answers = sym c.0; holds = q ∙ store_alike W w s.order e ws (start W s) s.len K b l p ∙ sym c.1 }

  -- what strict store accepts, store accepts too, and leaves the same
  pub strict_by_store : verdict (store_strict_cases W (length ws) s K g v) ≡ Ok tt
      → (answer W (store s K e g v) ws ≡ answer W (store_strict s K e g v) ws) × (after W (store s K e g v) ws ≡ after W (store_strict s K e g v) ws)
  unfolding cases answer! after! store_strict_cases store_cases fitting_cases
  strict_by_store h =
      let p = fine_parts (span_cases W (length ws) s) (fitting_cases K s.len g v) h in
      let q = fine_parts (value_cases K s.len g v) (DoesNotFit when not (fits s.len g v) ∷ []) p.1 in
      let c = accepted_call W (store_strict s K e g v) ws h in
      let d = accepted_call W (store s K e g v) ws (goes (span_cases W (length ws) s) (value_cases K s.len g v) p.0 ∙ q.0) in
      (d.0 ∙ sym c.0, d.1 ∙ sym c.1)

-- ---- a store's table is a load's, and then refusal 8

then_then : (a b c : Verdict) → and_then a (and_then b c) ≡ and_then (and_then a b) c
then_then (Ok _) b c = refl
then_then (Err r) b c = refl

module _ (W n : ℕ) (s : Span) (K : ℕ) (g : Sign) (v : ℤ) where
  last : List Case
  last = NotAnInteger when not (is_integer K g v) ∷ []

  store_after : verdict (store_cases W n s K g v) ≡ and_then (verdict (load_cases W n s K)) (verdict last)
  unfolding store_cases value_cases load_cases last
  store_after =
      verdict_append (span_cases W n s) (field_cases K s.len ++ last)
      ∙ ap (and_then (verdict (span_cases W n s))) (verdict_append (field_cases K s.len) last)
      ∙ then_then (verdict (span_cases W n s)) (verdict (field_cases K s.len)) (verdict last)
      ∙ ap (λ (x : Verdict). and_then x (verdict last)) (sym (verdict_append (span_cases W n s) (field_cases K s.len)))

  pub store_stops : {r : Refusal} → verdict (load_cases W n s K) ≡ Err r → verdict (store_cases W n s K g v) ≡ Err r
  store_stops e = store_after ∙ ap (λ (x : Verdict). and_then x (verdict last)) e

  pub store_refused_8 : verdict (load_cases W n s K) ≡ Ok tt → is_integer K g v ≡ false → verdict (store_cases W n s K g v) ≡ Err NotAnInteger
  unfolding verdict last
  store_refused_8 e h = store_after ∙ rw (e, h)

  pub store_fine : verdict (load_cases W n s K) ≡ Ok tt → is_integer K g v ≡ true → verdict (store_cases W n s K g v) ≡ Ok tt
  unfolding verdict last
  store_fine e h = store_after ∙ rw (e, h)
