-- The numbers of calls and of owners in a record, as vectors/README.md has them. Assumes nothing.
use Rattle.std.specs.Prelude.{◌≡◌, ℕ, ◌<◌, Result, MatchResult}
use Rattle.records.specs.declared.calls.Call.{Call}
use Rattle.records.specs.declared.calls.Call.TheVariants.{Position, Selector, Mask, Split, ReadBit, WriteBit, Load, Store, StoreStrict}
use Rattle.records.specs.declared.calls.Call.TheVariants.{CopyFrom, CopyWithin, Boolean, Swap, Equal, FirstOne, LastOne, FirstZero, LastZero}
use Rattle.records.specs.declared.calls.NoCall.{NoCall}
use Rattle.records.specs.declared.owners.Whose.{Whose}
use Rattle.records.specs.declared.owners.Whose.TheVariants.{Bitvec, Model}
use Rattle.records.specs.declared.owners.NoOwner.{NoOwner}

-- the number of a call
abbrev pub number : Call → ℕ
number Position = 0
number Selector = 1
number Mask = 2
number Split = 3
number ReadBit = 4
number WriteBit = 5
number Load = 6
number Store = 7
number StoreStrict = 8
number CopyFrom = 9
number CopyWithin = 10
number Boolean = 11
number Swap = 12
number Equal = 13
number FirstOne = 14
number LastOne = 15
number FirstZero = 16
number LastZero = 17

-- the call with this number, or the number again, which no call has
abbrev pub Decodes : ℕ → Result Call NoCall → Type 0
Decodes n r = MatchResult r (λ call. number call ≡ n) (λ e. (e.0 ≡ n) × (17 < n))

-- whose an answer is by its number
abbrev pub owner : Whose → ℕ
owner Bitvec = 0
owner Model = 1

-- the owner with this number, or the number again, which stands for none
abbrev pub Owns : ℕ → Result Whose NoOwner → Type 0
Owns n r = MatchResult r (λ whose. owner whose ≡ n) (λ e. (e.0 ≡ n) × (1 < n))
