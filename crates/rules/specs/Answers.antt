-- What each answer says, in document 01's numbers and values; and what a call promises. Cited by the promise of every call. Assumes nothing.
use Rattle.std.specs.Prelude.{ℕ, ◌≡◌, Bool, cond, List, ℤ, pos, Option, Some, None}
use Rattle.rules.specs.Types.{Position, Selector, Mask, Span, Halves, Number, Refusal, Result, Ok, Err, Verdict}
use Rattle.rules.specs.Fields.{whole}
use Rattle.rules.specs.Refusals.{Case, number, verdict}
use Rattle.rules.specs.Calls.{Answer, refused, done, a_position, a_selector, a_mask, a_span, two_spans, a_bit, a_number, says_yes}
use Rattle.rules.specs.Calls.{says_no, found_at, absent, digit, Call, answer, after, swap_answer, swap_left, swap_right}

-- what was asked for, as f says it, or a refusal's number
abbrev pub answer_says : {A : Type 0} → (A → Answer) → Result A Refusal → Answer
answer_says f (Ok a) = f a
answer_says f (Err r) = refused (number r)

-- a check: nothing to refuse, or a refusal's number
abbrev pub verdict_says : Verdict → Answer
verdict_says r = answer_says (λ _. done) r

-- a real position
abbrev pub position_says : Result Position Refusal → Answer
position_says r = answer_says (λ p. a_position p.0) r

-- a selector
abbrev pub selector_says : Result Selector Refusal → Answer
selector_says r = answer_says (λ p. a_selector p.0) r

-- a mask
abbrev pub mask_says : Result Mask Refusal → Answer
mask_says r = answer_says (λ p. a_mask p.0) r

-- the two spans of a split
abbrev pub split_says : Result Halves Refusal → Answer
split_says r = answer_says (λ h. two_spans h.left h.rest) r

-- a shortened or shifted span
abbrev pub span_says : Result Span Refusal → Answer
span_says r = answer_says a_span r

-- a bit, true for 1
abbrev pub bit_says : Result Bool Refusal → Answer
bit_says r = answer_says (λ b. a_bit (digit b)) r

-- a loaded number
abbrev pub number_says : Result Number Refusal → Answer
number_says r = answer_says (λ v. a_number (whole v)) r

-- the bits that a store places
abbrev pub low_bits_says : Result ℕ Refusal → Answer
low_bits_says r = answer_says (λ u. a_number (pos u)) r

-- the machine's own signed number
abbrev pub machine_says : Result ℤ Refusal → Answer
machine_says r = answer_says a_number r

-- a write that was done
abbrev pub write_says : Result (Unit {0}) Refusal → Answer
write_says r = answer_says (λ _. done) r

-- yes or no
abbrev pub equal_says : Result Bool Refusal → Answer
equal_says r = answer_says (λ b. cond b says_yes says_no) r

-- an index counted from the span's start, or none
abbrev pub found_says : Option ℕ → Answer
found_says (Some i) = found_at i
found_says None = absent

-- what a search found
abbrev pub search_says : Result (Option ℕ) Refusal → Answer
search_says r = answer_says found_says r

-- what a check promises of its answer r: what the table's first row that holds says
pub record Judges (table : List Case) (r : Verdict) : Type 0 where
  pub says : verdict_says r ≡ verdict_says (verdict table)

-- what a writing call promises of its answer r and of the memory that it leaves, where it found `old`: this one answer, and each lent bit
pub record Gives (W : ℕ) (call : Call) (old : List ℕ) (r : Answer) (new : List ℕ) : Type 0 where
  pub answers : r ≡ answer W call old
  pub holds : new ≡ after W call old

-- the same of a swap, with both buffers
pub record Swaps (W : ℕ) (left : List ℕ) (s : Span) (right : List ℕ) (t : Span) (r : Answer) (newLeft newRight : List ℕ) : Type 0 where
  pub answers : r ≡ swap_answer W left s right t
  pub holds_left : newLeft ≡ swap_left W left s right t
  pub holds_right : newRight ≡ swap_right W left s right t
