-- Which call of the rules a request is, and what a reply says. Cited by the promises of `perform`. Assumes nothing.
use Rattle.std.specs.Prelude.{ℕ, cond, List, Result}
use Rattle.rules.specs.declared.Refusal.{Refusal}
use Rattle.rules.specs.Fields.{whole}
use Rattle.rules.specs.Answers.{answer_says, found_says}
use Rattle.rules.specs.Calls as calls
use Rattle.requests.specs.declared.Side.{Side}
use Rattle.requests.specs.declared.Side.TheVariants.{Here, There}
use Rattle.requests.specs.declared.Request.{Request}
use Rattle.requests.specs.declared.Request.TheVariants.{ReadBit, WriteBit, Load, Store, StoreStrict, CopyFrom, CopyWithin, Boolean}
use Rattle.requests.specs.declared.Request.TheVariants.{Equal, FindFirst, FindLast}
use Rattle.requests.specs.declared.Reply.{Reply}
use Rattle.requests.specs.declared.Reply.TheVariants.{Done, Bit, Number, Equal as Compared, Found}

-- a side of a comparison, the second buffer being vs
abbrev pub side_of : Side → List ℕ → calls.Side
side_of Here vs = calls.here
side_of There vs = calls.there vs

-- the call that a request makes, the second buffer being vs
abbrev pub call_of : Request → List ℕ → calls.Call
call_of (ReadBit s i) vs = calls.read_bit s i
call_of (WriteBit s i b) vs = calls.write_bit s i b
call_of (Load s K e g) vs = calls.load s K e g
call_of (Store s K e g v) vs = calls.store s K e g (whole v)
call_of (StoreStrict s K e g v) vs = calls.store_strict s K e g (whole v)
call_of (CopyFrom s t) vs = calls.copy_from s vs t
call_of (CopyWithin s from count to) vs = calls.copy_within s from count to
call_of (Boolean s t op) vs = calls.boolean op s vs t
call_of (Equal a s b t) vs = calls.equal (side_of a vs) s (side_of b vs) t
call_of (FindFirst b s) vs = calls.find_first (calls.digit b) s
call_of (FindLast b s) vs = calls.find_last (calls.digit b) s

-- what a reply says
abbrev pub accepted_says : Reply → calls.Answer
accepted_says Done = calls.done
accepted_says (Bit b) = calls.a_bit (calls.digit b)
accepted_says (Number v) = calls.a_number (whole v)
accepted_says (Compared b) = cond b calls.says_yes calls.says_no
accepted_says (Found i) = found_says i

-- what comes back says: what the reply does, or a refusal's number
abbrev pub reply_says : Result Reply Refusal → calls.Answer
reply_says r = answer_says accepted_says r
