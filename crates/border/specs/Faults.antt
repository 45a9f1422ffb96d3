-- Why a call with codes is not done, and what it answers: the definitions of Border and of the rules' Answers, over the declared type. Assumes nothing.
use Rattle.std.specs.Prelude.{ℕ, ◌≡◌, Bool, true, false, cond, List, Option, Result, Ok, Err}
use Rattle.rules.specs.declared.Position.{Position}
use Rattle.rules.specs.declared.Selector.{Selector}
use Rattle.rules.specs.declared.Mask.{Mask}
use Rattle.rules.specs.declared.Halves.{Halves}
use Rattle.rules.specs.declared.Number.{Number}
use Rattle.rules.specs.declared.Span.{Span}
use Rattle.rules.specs.Fields.{whole}
use Rattle.rules.specs.Refusals.{number}
use Rattle.rules.specs.Calls.{Answer, refused, done, a_position, a_selector, a_mask, two_spans, a_bit, a_number, says_yes, says_no, digit}
use Rattle.rules.specs.Calls.{Call, answer, after, swap_answer, swap_left, swap_right}
use Rattle.rules.specs.Answers.{found_says}
use Rattle.border.specs.Border.{behind, kept}
use Rattle.border.specs.declared.faults.Fault.{Fault}
use Rattle.border.specs.declared.faults.Fault.TheVariants.{NoCode, Refused}

-- its number: 255 where an argument is no code, else the refusal's
abbrev pub fault_number : Fault → ℕ
fault_number NoCode = 255
fault_number (Refused r) = number r

-- what a code names, unless it is none
abbrev pub unless_none : {A : Type 0} → Bool → A → Result A Fault
unless_none true a = Err NoCode
unless_none false a = Ok a

-- what was asked for, as f says it, or a fault's number
abbrev pub fault_says : {A : Type 0} → (A → Answer) → Result A Fault → Answer
fault_says f (Ok a) = f a
fault_says f (Err e) = refused (fault_number e)

-- a real position
abbrev pub position_told : Result Position Fault → Answer
position_told r = fault_says (λ p. a_position p.0) r

-- a selector
abbrev pub selector_told : Result Selector Fault → Answer
selector_told r = fault_says (λ p. a_selector p.0) r

-- a mask
abbrev pub mask_told : Result Mask Fault → Answer
mask_told r = fault_says (λ p. a_mask p.0) r

-- the two spans of a split
abbrev pub rest_told : Result Halves Fault → Answer
rest_told r = fault_says (λ h. two_spans h.left h.rest) r

-- a bit, true for 1
abbrev pub bit_told : Result Bool Fault → Answer
bit_told r = fault_says (λ b. a_bit (digit b)) r

-- a loaded number
abbrev pub number_told : Result Number Fault → Answer
number_told r = fault_says (λ v. a_number (whole v)) r

-- a write that was done
abbrev pub write_told : Result (Unit {0}) Fault → Answer
write_told r = fault_says (λ _. done) r

-- yes or no
abbrev pub equal_told : Result Bool Fault → Answer
equal_told r = fault_says (λ b. cond b says_yes says_no) r

-- what a search found
abbrev pub found_told : Result (Option ℕ) Fault → Answer
found_told r = fault_says found_says r

-- what a writing call promises of its answer r and of every lent word, where they were `old`; `bad` says that an argument is no code
pub record Answered (W : ℕ) (bad : Bool) (call : Call) (old : List ℕ) (r : Answer) (new : List ℕ) : Type 0 where
  pub answers : r ≡ behind bad (answer W call old)
  pub holds : new ≡ kept bad (after W call old) old

-- the same of a swap, with both buffers
pub record Exchanged (W : ℕ) (bad : Bool) (left : List ℕ) (s : Span) (right : List ℕ) (t : Span) (r : Answer) (newLeft newRight : List ℕ) : Type 0 where
  pub answers : r ≡ behind bad (swap_answer W left s right t)
  pub holds_left : newLeft ≡ kept bad (swap_left W left s right t) left
  pub holds_right : newRight ≡ kept bad (swap_right W left s right t) right

-- what a call returns of such an answer
abbrev pub fault_or_0 : {A : Type 0} → Result A Fault → ℕ
fault_or_0 (Ok a) = 0
fault_or_0 (Err e) = fault_number e

-- what then stands behind its pointer
abbrev pub value_or : {A : Type 0} → Result A Fault → A → A
value_or (Ok a) old = a
value_or (Err e) old = old
