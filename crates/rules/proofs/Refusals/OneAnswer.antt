-- No second answer, and no second memory, keeps a promise: different answers say different things. Assumes nothing.
use mathlib.Core.Path.{◌≡◌, refl, sym, ap, ap₂, ◌∙◌}
use mathlib.Core.Bool.{Bool, true, false, cond}
use mathlib.Core.List.{List}
use Prim.Native.Nat.{ℕ}
use lib.Dec.{eqb}
use lib.IntN.{ℤ, pos, negsuc}
use Rattle.std.proofs.Common.{Option, Some, None, IsErrAnd}
use Rattle.std.proofs.lemmas.Result.{err_from_is_err_and}
use Rattle.rules.specs.Types.{Refusal, TooManyWords, IndexTooLarge, OutOfBounds, NoSuchK, FieldLength, OrdersDiffer, LengthsDiffer, NotAnInteger, DoesNotFit, NotBelow, Result, Ok, Err, Verdict, Position, Selector, Mask, Span, Halves, Number, Up, Down}
use Rattle.rules.specs.Fields.{whole}
use Rattle.rules.specs.Refusals.{Case, number, verdict}
use Rattle.rules.specs.Calls.{Answer, refused, says_yes, says_no, said, Call, digit}
use Rattle.rules.specs.Answers.{answer_says, found_says, verdict_says, Judges, position_says, selector_says, mask_says, split_says, span_says, bit_says, number_says, low_bits_says, machine_says, write_says, equal_says, search_says, Gives, Swaps}

-- a function with a way back takes no two things to one
pub onto : {A B : Type 0} (f : A → B) (g : B → A) → ((x : A) → g (f x) ≡ x) → (x y : A) → f x ≡ f y → x ≡ y
onto f g back x y e = sym (back x) ∙ ap g e ∙ back y

-- the refusal with a number
abbrev pub of_number : ℕ → Refusal
of_number n =
    cond (eqb n 1) TooManyWords (cond (eqb n 2) IndexTooLarge (cond (eqb n 3) OutOfBounds (cond (eqb n 4) NoSuchK (cond (eqb n 5) FieldLength
    (cond (eqb n 6) OrdersDiffer (cond (eqb n 7) LengthsDiffer (cond (eqb n 8) NotAnInteger (cond (eqb n 9) DoesNotFit NotBelow))))))))

pub numbered : (r : Refusal) → of_number (number r) ≡ r
numbered TooManyWords = refl
numbered IndexTooLarge = refl
numbered OutOfBounds = refl
numbered NoSuchK = refl
numbered FieldLength = refl
numbered OrdersDiffer = refl
numbered LengthsDiffer = refl
numbered NotAnInteger = refl
numbered DoesNotFit = refl
numbered NotBelow = refl

pub one_number : (r s : Refusal) → number r ≡ number s → r ≡ s
one_number = onto number of_number numbered

abbrev pub of_whole : ℤ → Number
of_whole (pos n) = Up n
of_whole (negsuc n) = Down n

pub wholes : (v : Number) → of_whole (whole v) ≡ v
wholes (Up n) = refl
wholes (Down n) = refl

pub digit_one : (a b : Bool) → digit a ≡ digit b → a ≡ b
digit_one = onto digit (λ n. eqb n 1) back
  where
    back : (b : Bool) → eqb (digit b) 1 ≡ b
    back true = refl
    back false = refl

pub whole_one : (v w : Number) → whole v ≡ whole w → v ≡ w
whole_one = onto whole of_whole wholes

-- where f says different things of different values, and of none that it is refused, different answers say different things
pub one_answer : {A : Type 0} (f : A → Answer) → ((a b : A) → f a ≡ f b → a ≡ b) → ((a : A) (n : ℕ) → f a ≡ refused n → ⊥)
    → (x y : Result A Refusal) → answer_says f x ≡ answer_says f y → x ≡ y
one_answer f one never (Ok a) (Ok b) e = ap Ok (one a b e)
one_answer f one never (Ok a) (Err s) e = absurd (never a (number s) e)
one_answer f one never (Err r) (Ok b) e = absurd (never b (number r) (sym e))
one_answer f one never (Err r) (Err s) e = ap Err (one_number r s (cc))

pub one_verdict : (x y : Verdict) → verdict_says x ≡ verdict_says y → x ≡ y
one_verdict = one_answer _ (λ a b e. refl) (λ a n e. cc)

-- a check's promise, and its answer as the verdict itself
pub judged : {t : List Case} {r : Verdict} → Judges t r → r ≡ verdict t
judged {t} {r} j = one_verdict r (verdict t) j.says

pub judges : {t : List Case} {r : Verdict} → r ≡ verdict t → Judges t r
judges e = record { says = ap verdict_says e }

-- what an answer of a check tells of its table
pub accepted : {t : List Case} {r : Verdict} → Judges t r → r ≡ Ok tt → verdict t ≡ Ok tt
accepted j e = sym (judged j) ∙ e

pub declined : {t : List Case} {r : Verdict} {why : Refusal} → Judges t r → r ≡ Err why → verdict t ≡ Err why
declined j e = sym (judged j) ∙ e

-- what a `?` passes up
pub passed_up : {A : Type 0} {r : Result A Refusal} {why : Refusal} → IsErrAnd r (λ e. e ≡ why) → r ≡ Err why
passed_up {r = r} p = let q = err_from_is_err_and r p in rw (q.1, q.2)

pub judges_passed : {t : List Case} {r : Verdict} {why : Refusal} → IsErrAnd r (λ e. e ≡ why) → verdict t ≡ Err why → Judges t r
judges_passed p e = judges (passed_up p ∙ sym e)

-- no second answer keeps it
pub only_verdict : {t : List Case} {r r' : Verdict} → Judges t r → Judges t r' → r ≡ r'
only_verdict j k = judged j ∙ sym (judged k)

pub one_position : (x y : Result Position Refusal) → position_says x ≡ position_says y → x ≡ y
one_position = one_answer _ (λ a b e. ap (λ (n : ℕ). record { 0 = n }) (cc)) (λ a n e. cc)

pub one_selector : (x y : Result Selector Refusal) → selector_says x ≡ selector_says y → x ≡ y
one_selector = one_answer _ (λ a b e. ap (λ (n : ℕ). record { 0 = n }) (cc)) (λ a n e. cc)

pub one_mask : (x y : Result Mask Refusal) → mask_says x ≡ mask_says y → x ≡ y
one_mask = one_answer _ (λ a b e. ap (λ (n : ℕ). record { 0 = n }) (cc)) (λ a n e. cc)

pub one_split : (x y : Result Halves Refusal) → split_says x ≡ split_says y → x ≡ y
one_split = one_answer _ (λ a b e. let l : a.left ≡ b.left = cc in let r : a.rest ≡ b.rest = cc in ap₂ (λ (s t : Span). record { left = s; rest = t }) l r) (λ a n e. cc)

pub one_span : (x y : Result Span Refusal) → span_says x ≡ span_says y → x ≡ y
one_span = one_answer _ (λ a b e. cc) (λ a n e. cc)

pub one_bit : (x y : Result Bool Refusal) → bit_says x ≡ bit_says y → x ≡ y
one_bit = one_answer _ (λ a b e. digit_one a b (cc)) (λ a n e. cc)

pub one_number_answer : (x y : Result Number Refusal) → number_says x ≡ number_says y → x ≡ y
one_number_answer = one_answer _ (λ a b e. whole_one a b (cc)) (λ a n e. cc)

pub one_low_bits : (x y : Result ℕ Refusal) → low_bits_says x ≡ low_bits_says y → x ≡ y
one_low_bits = one_answer _ (λ a b e. cc) (λ a n e. cc)

pub one_machine : (x y : Result ℤ Refusal) → machine_says x ≡ machine_says y → x ≡ y
one_machine = one_answer _ (λ a b e. cc) (λ a n e. cc)

pub one_write : (x y : Result (Unit {0}) Refusal) → write_says x ≡ write_says y → x ≡ y
one_write = one_verdict

pub one_equal : (x y : Result Bool Refusal) → equal_says x ≡ equal_says y → x ≡ y
one_equal = one_answer _ one never
  where
    one : (a b : Bool) → cond a says_yes says_no ≡ cond b says_yes says_no → a ≡ b
    one true true e = refl
    one true false e = cc
    one false true e = cc
    one false false e = refl

    never : (a : Bool) (n : ℕ) → cond a says_yes says_no ≡ refused n → ⊥
    never true n e = cc
    never false n e = cc

pub one_search : (x y : Result (Option ℕ) Refusal) → search_says x ≡ search_says y → x ≡ y
one_search = one_answer found_says one never
  where
    one : (a b : Option ℕ) → found_says a ≡ found_says b → a ≡ b
    one (Some i) (Some j) e = cc
    one (Some i) None e = cc
    one None (Some j) e = cc
    one None None e = refl

    never : (a : Option ℕ) (n : ℕ) → found_says a ≡ refused n → ⊥
    never (Some i) n e = cc
    never None n e = cc

-- what is said of an answer that a `?` passes up, and the promise of a write and of a swap that pass one up
pub says_passed : {A : Type 0} (f : A → Answer) (r : Result A Refusal) (why : Refusal) → IsErrAnd r (λ e. e ≡ why) → answer_says f r ≡ refused (number why)
says_passed f r why p = rw (passed_up p)

pub gives_passed : {W : ℕ} {c : Call} {ws m : List ℕ} (r : Result (Unit {0}) Refusal) (why : Refusal) → IsErrAnd r (λ e. e ≡ why)
    → Gives W c ws (refused (number why)) m → Gives W c ws (write_says r) m
gives_passed r why p g = record { answers = says_passed _ r why p ∙ g.answers; holds = g.holds }

pub swaps_passed : {W : ℕ} {ws vs m n : List ℕ} {s t : Span} (r : Result (Unit {0}) Refusal) (why : Refusal) → IsErrAnd r (λ e. e ≡ why)
    → Swaps W ws s vs t (refused (number why)) m n → Swaps W ws s vs t (write_says r) m n
swaps_passed r why p g = record { answers = says_passed _ r why p ∙ g.answers; holds_left = g.holds_left; holds_right = g.holds_right }

-- a promise has one answer and one memory
pub only : {W : ℕ} {c : Call} {ws : List ℕ} {r r' : Answer} {m m' : List ℕ} → Gives W c ws r m → Gives W c ws r' m' → (r ≡ r') × (m ≡ m')
only g h = (g.answers ∙ sym h.answers, g.holds ∙ sym h.holds)

-- an answer behind a verdict, and one behind `Ok`
pub said_refused : (a : Answer) {v : Verdict} {r : Refusal} → v ≡ Err r → refused (number r) ≡ said v a
said_refused a e = rw e

pub said_passed : {A : Type 0} (f : A → Answer) (r : Result A Refusal) (a : Answer) {v : Verdict} {why : Refusal} → IsErrAnd r (λ e. e ≡ why) → v ≡ Err why
    → answer_says f r ≡ said v a
said_passed f r a p e = says_passed f r _ p ∙ said_refused a e

pub said_fine : {a b : Answer} {v : Verdict} → v ≡ Ok tt → a ≡ b → a ≡ said v b
said_fine e d = rw e d
