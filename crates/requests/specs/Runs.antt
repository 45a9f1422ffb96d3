-- Runs of the code: what is asked of `perform` one after the other, each step keeping its promise; and what two parties are promised of it.
-- Cited by the isolation theorems of the code. Assumes nothing.
use Rattle.std.specs.Prelude.{ℕ, ◌≡◌, List, [], ◌∷◌, map, length, Result}
use Rattle.rules.specs.declared.Refusal.{Refusal}
use Rattle.rules.specs.Bits.{bit_at}
use Rattle.rules.specs.Mixtures.{Party, Of, of, hers, Asked, call, no_call}
use Rattle.requests.specs.declared.Request.{Request}
use Rattle.requests.specs.declared.Reply.{Reply}
use Rattle.requests.specs.Requests.{call_of}

-- What was asked and what was replied: a request with a second, read-only buffer; or, at the border to C, what is no call and is answered 255.
pub data Exchange : Type 0 where
  performed : Request → List ℕ → Result Reply Refusal → Exchange
  declined : Exchange

-- what came back
pub data Got : Type 0 where
  replied : Result Reply Refusal → Got
  got_255 : Got

abbrev pub got : Exchange → Got
got (performed request other reply) = replied reply
got declined = got_255

-- what was asked
abbrev pub asked : Exchange → Asked
asked (performed request other reply) = call (call_of request other)
asked declined = no_call

-- something of a party's, made into another thing of that party's
abbrev pub marked : {A B : Type 0} → (A → B) → Of A → Of B
marked f (of p a) = of p (f a)

-- the exchanges of both parties, as they came
abbrev pub unmarked : Of Exchange → Exchange
unmarked (of p e) = e

-- `Performs ws request other reply vs` says that the function, given the buffer ws, kept its promise with this reply and the buffer vs.
module _ (Performs : List ℕ → Request → List ℕ → Result Reply Refusal → List ℕ → Type 0) where
  -- a run from one buffer to another
  pub data Run : List ℕ → List Exchange → List ℕ → Type 0 where
    ended : {ws : List ℕ} → Run ws [] ws
    step : {ws ms vs other : List ℕ} {request : Request} {reply : Result Reply Refusal} {t : List Exchange}
        → Performs ws request other reply ms → Run ms t vs → Run ws (performed request other reply ∷ t) vs
    passed : {ws vs : List ℕ} {t : List Exchange} → Run ws t vs → Run ws (declined ∷ t) vs

  -- What both parties are promised of a run from ws to vs: a run of what one of them asked alone, from any buffer that has its bits, has the same replies
  -- and leaves it the same bits; and bits that nobody owns stay.
  pub record Undisturbed (W : ℕ) (Own : Party → ℕ → Type 0) (t : List (Of Exchange)) (ws vs : List ℕ) : Type 0 where
    pub same_replies : (p : Party) (us ends : List ℕ) (s : List Exchange) → length us ≡ length ws → ((q : ℕ) → Own p q → bit_at W us q ≡ bit_at W ws q)
        → map asked s ≡ map asked (hers p t) → Run us s ends → map got s ≡ map got (hers p t)
    pub same_bits : (p : Party) (us ends : List ℕ) (s : List Exchange) → length us ≡ length ws → ((q : ℕ) → Own p q → bit_at W us q ≡ bit_at W ws q)
        → map asked s ≡ map asked (hers p t) → Run us s ends → (q : ℕ) → Own p q → bit_at W ends q ≡ bit_at W vs q
    pub others_stay : (q : ℕ) → ((p : Party) → Own p q → ⊥) → bit_at W vs q ≡ bit_at W ws q
