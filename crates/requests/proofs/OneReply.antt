-- Different replies say different things, and none says 255. Assumes nothing.
use Prim.Native.Nat.{ℕ}
use mathlib.Core.Path.{◌≡◌, refl, ap}
use mathlib.Core.Bool.{true, false}
use native.Mathlib.Omega.{arith}
use lib.Dec.{eqb}
use Rattle.std.proofs.Common.{Some, None, Result, Ok, Err}
use Rattle.rules.specs.declared.Refusal.{Refusal}
use Rattle.rules.specs.declared.Refusal.TheVariants.{TooManyWords, IndexTooLarge, OutOfBounds, NoSuchK, FieldLength, OrdersDiffer, LengthsDiffer, NotAnInteger, DoesNotFit, NotBelow}
use Rattle.rules.specs.Refusals.{number}
use Rattle.rules.specs.Calls.{Answer, refused, done, a_bit, a_number, says_yes, says_no, found_at, absent}
use Rattle.rules.proofs.Refusals.OneAnswer.{onto, of_whole, wholes, one_answer}
use Rattle.requests.specs.declared.Reply.{Reply}
use Rattle.requests.specs.declared.Reply.TheVariants.{Done, Bit, Number, Equal, Found}
use Rattle.requests.specs.Requests.{accepted_says, reply_says}

-- the reply that says an answer, where one does
abbrev of_answer : Answer → Reply
of_answer done = Done
of_answer (a_bit b) = Bit (eqb b 1)
of_answer (a_number z) = Number (of_whole z)
of_answer says_yes = Equal true
of_answer says_no = Equal false
of_answer (found_at i) = Found (Some i)
of_answer absent = Found None
of_answer _ = Done

back : (x : Reply) → of_answer (accepted_says x) ≡ x
back Done = refl
back (Bit true) = refl
back (Bit false) = refl
back (Number v) = ap Number (wholes v)
back (Equal true) = refl
back (Equal false) = refl
back (Found (Some i)) = refl
back (Found None) = refl

-- none says that it is refused
never : (x : Reply) (n : ℕ) → accepted_says x ≡ refused n → ⊥
never Done n e = cc
never (Bit b) n e = cc
never (Number v) n e = cc
never (Equal true) n e = cc
never (Equal false) n e = cc
never (Found (Some i)) n e = cc
never (Found None) n e = cc

-- one answer, one reply
pub one_reply : (x y : Result Reply Refusal) → reply_says x ≡ reply_says y → x ≡ y
one_reply = one_answer accepted_says (onto accepted_says of_answer back) never

-- a refusal's number is none of the border's
few : (r : Refusal) → number r ≡ 255 → ⊥
few TooManyWords e = omega arith
few IndexTooLarge e = omega arith
few OutOfBounds e = omega arith
few NoSuchK e = omega arith
few FieldLength e = omega arith
few OrdersDiffer e = omega arith
few LengthsDiffer e = omega arith
few NotAnInteger e = omega arith
few DoesNotFit e = omega arith
few NotBelow e = omega arith

pub not_255 : (x : Result Reply Refusal) → reply_says x ≡ refused 255 → ⊥
not_255 (Ok a) e = never a 255 e
not_255 (Err r) e = few r (cc)
