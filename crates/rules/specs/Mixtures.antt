-- The third demand: two parties that own separate bit positions of one buffer never disturb each other, for any mixture of one-buffer calls.
-- `Isolated` states it. Cited by the isolation theorems, and by nothing else. Assumes nothing.
use Rattle.std.specs.Prelude.{ℕ, ◌≡◌, true, ◌||◌, List, [], ◌∷◌}
use Rattle.rules.specs.Types.{Ok}
use Rattle.rules.specs.Bits.{bit_at}
use Rattle.rules.specs.Refusals.{verdict}
use Rattle.rules.specs.Calls.{Answer, refused, Call, cases, answer, after, reads!, writes! }

-- ---- two parties

pub data Party : Type 0 where
  one two : Party

-- something of a party's: what it asks in a mixture, what it is answered
pub data Of (A : Type 0) : Type 0 where
  of : Party → A → Of A

-- the things of one party, in their order
unfoldable pub hers : {A : Type 0} → Party → List (Of A) → List A
hers one [] = []
hers one (of one a ∷ t) = a ∷ hers one t
hers one (of two a ∷ t) = hers one t
hers two [] = []
hers two (of one a ∷ t) = hers two t
hers two (of two a ∷ t) = a ∷ hers two t

-- Every thing of a mixture has a property, which may name its party.
abbrev pub All : {A : Type 0} → (Party → A → Type 0) → List (Of A) → Type 0
All P [] = Unit {0}
All P (of p a ∷ t) = P p a × All P t

-- ---- what they ask, one after the other

module _ {Asked Answer Memory : Type 0} (answer : Asked → Memory → Answer) (after : Asked → Memory → Memory) where
  -- what is answered
  unfoldable pub answers : List Asked → Memory → List Answer
  answers [] m = []
  answers (c ∷ t) m = answer c m ∷ answers t (after c m)

  -- the memory in the end
  unfoldable pub final : List Asked → Memory → Memory
  final [] m = m
  final (c ∷ t) m = final t (after c m)

  -- the same for a mixture of what both ask, each answer marked with the party that gets it
  unfoldable pub mixed_answers : List (Of Asked) → Memory → List (Of Answer)
  mixed_answers [] m = []
  mixed_answers (of p c ∷ t) m = of p (answer c m) ∷ mixed_answers t (after c m)

  unfoldable pub mixed_final : List (Of Asked) → Memory → Memory
  mixed_final [] m = m
  mixed_final (of p c ∷ t) m = mixed_final t (after c m)

-- a one-buffer call, or, at the border to C, what is none because an argument is no code
pub data Asked : Type 0 where
  call : Call → Asked
  no_call : Asked

-- what is answered: document 01's answer, and 255 to what is no call
abbrev pub told : ℕ → Asked → List ℕ → Answer
told W (call c) ws = answer W c ws
told W no_call ws = refused 255

-- the buffer after it
abbrev pub left : ℕ → Asked → List ℕ → List ℕ
left W (call c) ws = after W c ws
left W no_call ws = ws

-- ---- the demand

-- No position is owned by both.
abbrev pub Separate : (Party → ℕ → Type 0) → Type 0
Separate Own = (q : ℕ) → Own one q → Own two q → ⊥

-- An accepted call, of a buffer of n words, reads and writes only positions that its caller owns. What is refused, or no call, reads and writes none.
abbrev pub Within : ℕ → ℕ → (Party → ℕ → Type 0) → Party → Asked → Type 0
Within W n Own p (call c) = verdict (cases W n c) ≡ Ok tt → (q : ℕ) → (reads! W c q || writes! W c q) ≡ true → Own p q
Within W n Own p no_call = Unit {0}

-- Each party's answers and final bits are those of what it asked alone, and bits that nobody owns stay.
pub record Isolated (W : ℕ) (ws : List ℕ) (Own : Party → ℕ → Type 0) (t : List (Of Asked)) : Type 0 where
  pub same_answers : (p : Party) → hers p (mixed_answers (told W) (left W) t ws) ≡ answers (told W) (left W) (hers p t) ws
  pub same_bits : (p : Party) (q : ℕ) → Own p q → bit_at W (mixed_final (told W) (left W) t ws) q ≡ bit_at W (final (told W) (left W) (hers p t) ws) q
  pub others_stay : (q : ℕ) → ((p : Party) → Own p q → ⊥) → bit_at W (mixed_final (told W) (left W) t ws) q ≡ bit_at W ws q
