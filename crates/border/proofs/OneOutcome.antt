-- No second outcome keeps one of the five promises that exported calls make: the returned number, each out-value and every lent word are settled.
-- Assumes nothing.
use Prim.Native.Nat.{ℕ}
use mathlib.Core.Path.{◌≡◌, refl, sym, ap, ◌∙◌}
use mathlib.Core.Bool.{Bool, true, false, cond}
use mathlib.Core.List.{List}
use lib.Dec.{eqb}
use Rattle.std.proofs.Common.{Option, Some, None, Result, Ok, Err}
use Rattle.rules.specs.declared.Span.{Span}
use Rattle.rules.specs.declared.Position.{Position}
use Rattle.rules.specs.declared.Selector.{Selector}
use Rattle.rules.specs.declared.Mask.{Mask}
use Rattle.rules.specs.declared.Halves.{Halves}
use Rattle.rules.specs.declared.Number.{Number}
use Rattle.rules.specs.declared.Refusal.{Refusal}
use Rattle.rules.specs.declared.Refusal.TheVariants.{TooManyWords, IndexTooLarge, OutOfBounds, NoSuchK, FieldLength}
use Rattle.rules.specs.declared.Refusal.TheVariants.{OrdersDiffer, LengthsDiffer, NotAnInteger, DoesNotFit, NotBelow}
use Rattle.rules.specs.Calls.{Answer, refused, says_yes, says_no, Call}
use Rattle.rules.specs.Answers.{answer_says, found_says}
use Rattle.rules.proofs.Refusals.OneAnswer.{onto, of_number, one_position, one_selector, one_mask, one_split, one_bit, one_number_answer, one_write, one_equal, one_search}
use Rattle.border.specs.declared.faults.Fault.{Fault}
use Rattle.border.specs.declared.faults.Fault.TheVariants.{NoCode, Refused}
use Rattle.border.specs.Faults.{fault_number, fault_says, position_told, selector_told, mask_told, rest_told, bit_told, number_told, write_told, equal_told, found_told}
use Rattle.border.specs.Faults.{Answered, Exchanged}
use Rattle.border.specs.Border.{Told, Found, Rest, Wrote, Swapped}

pub told_only : {a : Answer} {old r r' new new' : ℕ} → Told a old r new → Told a old r' new' → (r ≡ r') × (new ≡ new')
told_only p q = (p.number ∙ sym q.number, p.value ∙ sym q.value)

pub found_only : {a : Answer} {old older r r' new new' newer newer' : ℕ} → Found a old older r new newer → Found a old older r' new' newer'
    → (r ≡ r') × (new ≡ new') × (newer ≡ newer')
found_only p q = (p.number ∙ sym q.number, p.whether ∙ sym q.whether, p.where_to ∙ sym q.where_to)

pub rest_only : {a : Answer} {w h l r r' w₁ w₂ h₁ h₂ l₁ l₂ : ℕ} → Rest a w h l r w₁ h₁ l₁ → Rest a w h l r' w₂ h₂ l₂ → (r ≡ r') × (w₁ ≡ w₂) × (h₁ ≡ h₂) × (l₁ ≡ l₂)
rest_only p q = (
  p.number ∙ sym q.number,
  p.first_word ∙ sym q.first_word,
  p.first_head ∙ sym q.first_head,
  p.rest_length ∙ sym q.rest_length,
)

pub wrote_only : {W : ℕ} {bad : Bool} {c : Call} {old new new' : List ℕ} {r r' : ℕ} → Wrote W bad c old r new → Wrote W bad c old r' new'
    → (r ≡ r') × (new ≡ new')
wrote_only p q = (p.number ∙ sym q.number, p.holds ∙ sym q.holds)

pub swapped_only : {W : ℕ} {bad : Bool} {s t : Span} {old older new new' newer newer' : List ℕ} {r r' : ℕ} → Swapped W bad old s older t r new newer
    → Swapped W bad old s older t r' new' newer' → (r ≡ r') × (new ≡ new') × (newer ≡ newer')
swapped_only p q = (p.number ∙ sym q.number, p.holds_left ∙ sym q.holds_left, p.holds_right ∙ sym q.holds_right)

-- ---- no second answer of a call with codes says the same

-- the fault with a number
abbrev pub of_fault_number : ℕ → Fault
of_fault_number n = cond (eqb n 255) NoCode (Refused (of_number n))

pub faults : (e : Fault) → of_fault_number (fault_number e) ≡ e
faults NoCode = refl
faults (Refused TooManyWords) = refl
faults (Refused IndexTooLarge) = refl
faults (Refused OutOfBounds) = refl
faults (Refused NoSuchK) = refl
faults (Refused FieldLength) = refl
faults (Refused OrdersDiffer) = refl
faults (Refused LengthsDiffer) = refl
faults (Refused NotAnInteger) = refl
faults (Refused DoesNotFit) = refl
faults (Refused NotBelow) = refl

pub one_fault : (e d : Fault) → fault_number e ≡ fault_number d → e ≡ d
one_fault = onto fault_number of_fault_number faults

-- where answers of the library say different things, and none of them 255, so do those of a call with codes
pub one_told : {A : Type 0} (f : A → Answer) → ((x y : Result A Refusal) → answer_says f x ≡ answer_says f y → x ≡ y)
    → ((a : A) → f a ≡ refused 255 → ⊥) → (x y : Result A Fault) → fault_says f x ≡ fault_says f y → x ≡ y
one_told f one never (Ok a) (Ok b) e = let h = one (Ok a) (Ok b) e in cc
one_told f one never (Ok a) (Err NoCode) e = absurd (never a e)
one_told f one never (Ok a) (Err (Refused s)) e = let h = one (Ok a) (Err s) e in cc
one_told f one never (Err NoCode) (Ok b) e = absurd (never b (sym e))
one_told f one never (Err (Refused r)) (Ok b) e = let h = one (Err r) (Ok b) e in cc
one_told f one never (Err d) (Err e) h = ap Err (one_fault d e (cc))

pub one_position_told : (x y : Result Position Fault) → position_told x ≡ position_told y → x ≡ y
one_position_told = one_told _ one_position (λ a e. cc)

pub one_selector_told : (x y : Result Selector Fault) → selector_told x ≡ selector_told y → x ≡ y
one_selector_told = one_told _ one_selector (λ a e. cc)

pub one_mask_told : (x y : Result Mask Fault) → mask_told x ≡ mask_told y → x ≡ y
one_mask_told = one_told _ one_mask (λ a e. cc)

pub one_rest_told : (x y : Result Halves Fault) → rest_told x ≡ rest_told y → x ≡ y
one_rest_told = one_told _ one_split (λ a e. cc)

pub one_bit_told : (x y : Result Bool Fault) → bit_told x ≡ bit_told y → x ≡ y
one_bit_told = one_told _ one_bit (λ a e. cc)

pub one_number_told : (x y : Result Number Fault) → number_told x ≡ number_told y → x ≡ y
one_number_told = one_told _ one_number_answer (λ a e. cc)

pub one_write_told : (x y : Result (Unit {0}) Fault) → write_told x ≡ write_told y → x ≡ y
one_write_told = one_told _ one_write (λ a e. cc)

pub one_equal_told : (x y : Result Bool Fault) → equal_told x ≡ equal_told y → x ≡ y
one_equal_told = one_told _ one_equal never
  where
    never : (a : Bool) → cond a says_yes says_no ≡ refused 255 → ⊥
    never true e = cc
    never false e = cc

pub one_found_told : (x y : Result (Option ℕ) Fault) → found_told x ≡ found_told y → x ≡ y
one_found_told = one_told _ one_search never
  where
    never : (a : Option ℕ) → found_says a ≡ refused 255 → ⊥
    never (Some i) e = cc
    never None e = cc

pub answered_only : {W : ℕ} {bad : Bool} {c : Call} {old new new' : List ℕ} {r r' : Result (Unit {0}) Fault} → Answered W bad c old (write_told r) new
    → Answered W bad c old (write_told r') new' → (r ≡ r') × (new ≡ new')
answered_only {r} {r'} p q = (one_write_told r r' (p.answers ∙ sym q.answers), p.holds ∙ sym q.holds)

pub exchanged_only : {W : ℕ} {bad : Bool} {s t : Span} {old older new new' newer newer' : List ℕ} {r r' : Result (Unit {0}) Fault}
    → Exchanged W bad old s older t (write_told r) new newer → Exchanged W bad old s older t (write_told r') new' newer'
    → (r ≡ r') × (new ≡ new') × (newer ≡ newer')
exchanged_only {r} {r'} p q = (one_write_told r r' (p.answers ∙ sym q.answers), p.holds_left ∙ sym q.holds_left, p.holds_right ∙ sym q.holds_right)
