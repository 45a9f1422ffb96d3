-- Isolation of two parties in one memory, and free order of calls, for any calls that read and write known positions. Nothing here is
-- about words: `Footprints` shows that document 01's one-buffer calls obey the `Rules` below. Assumes nothing.
use Prim.Native.Nat.{ℕ}
use mathlib.Core.Path.{◌≡◌, refl, sym, ◌∙◌, ap₂}
use mathlib.Core.Bool.{Bool, true, false, false≢true}
use mathlib.Core.List.{List, [], ◌∷◌}
use Rattle.rules.specs.Mixtures.{Party, one, two, Of, of, hers, All, Separate, answers, final, mixed_answers, mixed_final}

module _ {Call : Type 0} (reads writes : Call → ℕ → Bool) where
  -- a call reads and writes only positions of its caller
  pub record Keeps (Own : ℕ → Type 0) (c : Call) : Type 0 where
    pub read : (q : ℕ) → reads c q ≡ true → Own q
    pub written : (q : ℕ) → writes c q ≡ true → Own q

  -- neither call writes a position that the other reads or writes
  pub record Apart (c d : Call) : Type 0 where
    pub first : (q : ℕ) → writes c q ≡ true → (reads d q ≡ false) × (writes d q ≡ false)
    pub second : (q : ℕ) → writes d q ≡ true → (reads c q ≡ false) × (writes c q ≡ false)

-- The laws that tie what a call answers and leaves to the positions that it reads and writes. `Lent` says which memories are meant.
module _ {Call Answer Memory : Type 0} (Lent : Memory → Type 0) (bit : Memory → ℕ → ℕ) (answer : Call → Memory → Answer) (after : Call → Memory → Memory)
    (reads writes : Call → ℕ → Bool) where
  pub record Rules : Type 0 where
    pub lent_after : (c : Call) (m : Memory) → Lent m → Lent (after c m)
    -- a position that the call does not write keeps its bit
    pub frame : (c : Call) (m : Memory) → Lent m → (q : ℕ) → writes c q ≡ false → bit (after c m) q ≡ bit m q
    -- the answer and the bits written depend on the bits read alone
    pub local_answer : (c : Call) (m n : Memory) → Lent m → Lent n → ((q : ℕ) → reads c q ≡ true → bit m q ≡ bit n q) → answer c m ≡ answer c n
    pub local_bit : (c : Call) (m n : Memory) → Lent m → Lent n → ((q : ℕ) → reads c q ≡ true → bit m q ≡ bit n q)
        → (q : ℕ) → writes c q ≡ true → bit (after c m) q ≡ bit (after c n) q

either : (b : Bool) → {P : Type 0} → (b ≡ true → P) → (b ≡ false → P) → P
either true f g = f refl
either false f g = g refl

module _ {Call Answer Memory : Type 0} {Lent : Memory → Type 0} {bit : Memory → ℕ → ℕ} {answer : Call → Memory → Answer} {after : Call → Memory → Memory}
    {reads writes : Call → ℕ → Bool} (𝓡 : Rules Lent bit answer after reads writes) where
  abbrev pub Kept : (ℕ → Type 0) → Call → Type 0
  Kept = Keeps reads writes

  abbrev pub Agree : (ℕ → Type 0) → Memory → Memory → Type 0
  Agree Own m n = (q : ℕ) → Own q → bit m q ≡ bit n q

  own_step : {Own : ℕ → Type 0} (c : Call) → Kept Own c → (m n : Memory) → Lent m → Lent n → Agree Own m n → Agree Own (after c m) (after c n)
  own_step c k m n lm ln a q o = either (writes c q)
      (λ w. 𝓡.local_bit c m n lm ln (λ r h. a r (k.read r h)) q w)
      (λ w. 𝓡.frame c m lm q w ∙ a q o ∙ sym (𝓡.frame c n ln q w))

  other_step : {Own Other : ℕ → Type 0} → ((q : ℕ) → Own q → Other q → ⊥) → (c : Call) → Kept Other c → (m n : Memory) → Lent m → Agree Own m n
      → Agree Own (after c m) n
  other_step apart c k m n lm a q o = either (writes c q) (λ w. absurd (apart q o (k.written q w))) (λ w. 𝓡.frame c m lm q w ∙ a q o)

  module _ (Own : Party → ℕ → Type 0) (separate : Separate Own) where
    abbrev pub AllKeep : List (Of Call) → Type 0
    AllKeep t = All (λ p c. Kept (Own p) c) t

    pub agree : (p : Party) (t : List (Of Call)) → AllKeep t → (m n : Memory) → Lent m → Lent n → Agree (Own p) m n
        → (hers p (mixed_answers answer after t m) ≡ answers answer after (hers p t) n) × Agree (Own p) (mixed_final answer after t m) (final answer after (hers p t) n)
    unfolding hers mixed_answers answers mixed_final final
    agree one [] k m n lm ln a = (refl, a)
    agree two [] k m n lm ln a = (refl, a)
    agree one (of one c ∷ t) k m n lm ln a =
        let r = agree one t k.1 (after c m) (after c n) (𝓡.lent_after c m lm) (𝓡.lent_after c n ln) (own_step c k.0 m n lm ln a) in
        (ap₂ ◌∷◌ (𝓡.local_answer c m n lm ln (λ q h. a q (k.0.read q h))) r.0, r.1)
    agree two (of two c ∷ t) k m n lm ln a =
        let r = agree two t k.1 (after c m) (after c n) (𝓡.lent_after c m lm) (𝓡.lent_after c n ln) (own_step c k.0 m n lm ln a) in
        (ap₂ ◌∷◌ (𝓡.local_answer c m n lm ln (λ q h. a q (k.0.read q h))) r.0, r.1)
    agree one (of two c ∷ t) k m n lm ln a = agree one t k.1 (after c m) n (𝓡.lent_after c m lm) ln (other_step separate c k.0 m n lm a)
    agree two (of one c ∷ t) k m n lm ln a = agree two t k.1 (after c m) n (𝓡.lent_after c m lm) ln (other_step (λ q x y. separate q y x) c k.0 m n lm a)

    -- a party's answers and final bits are those of its own calls alone
    pub alone : (p : Party) (t : List (Of Call)) → AllKeep t → (m : Memory) → Lent m
        → (hers p (mixed_answers answer after t m) ≡ answers answer after (hers p t) m)
        × ((q : ℕ) → Own p q → bit (mixed_final answer after t m) q ≡ bit (final answer after (hers p t) m) q)
    alone p t k m lm = agree p t k m m lm lm (λ q o. refl)

    -- a bit that nobody owns stays
    pub unowned : (t : List (Of Call)) → AllKeep t → (m : Memory) → Lent m → (q : ℕ) → ((p : Party) → Own p q → ⊥)
        → bit (mixed_final answer after t m) q ≡ bit m q
    unfolding mixed_final
    unowned [] k m lm q free = refl
    unowned (of p c ∷ t) k m lm q free = unowned t k.1 (after c m) (𝓡.lent_after c m lm) q free
        ∙ either (writes c q) (λ w. absurd (free p (k.0.written q w))) (𝓡.frame c m lm q)

  -- what d reads, c leaves
  unread : (c d : Call) → ((q : ℕ) → writes c q ≡ true → (reads d q ≡ false) × (writes d q ≡ false)) → (m : Memory) → Lent m
      → (q : ℕ) → reads d q ≡ true → bit (after c m) q ≡ bit m q
  unread c d h m lm q r = either (writes c q) (λ w. absurd (false≢true (sym (h q w).0 ∙ r))) (𝓡.frame c m lm q)

  module _ (c d : Call) (h : Apart reads writes c d) (m : Memory) (lm : Lent m) where
    lc : Lent (after c m)
    lc = 𝓡.lent_after c m lm

    ld : Lent (after d m)
    ld = 𝓡.lent_after d m lm

    pub first_answer : answer c (after d m) ≡ answer c m
    first_answer = 𝓡.local_answer c (after d m) m ld lm (unread d c h.second m lm)

    pub second_answer : answer d (after c m) ≡ answer d m
    second_answer = 𝓡.local_answer d (after c m) m lc lm (unread c d h.first m lm)

    pub swapped_bit : (q : ℕ) → bit (after d (after c m)) q ≡ bit (after c (after d m)) q
    swapped_bit q = either (writes c q)
        (λ w. 𝓡.frame d (after c m) lc q (h.first q w).1 ∙ 𝓡.local_bit c m (after d m) lm ld (λ r x. sym (unread d c h.second m lm r x)) q w)
        (λ w. either (writes d q)
        (λ v. 𝓡.local_bit d (after c m) m lc lm (unread c d h.first m lm) q v ∙ sym (𝓡.frame c (after d m) ld q w))
        (λ v. 𝓡.frame d (after c m) lc q v ∙ 𝓡.frame c m lm q w ∙ sym (𝓡.frame d m lm q v) ∙ sym (𝓡.frame c (after d m) ld q w)))
