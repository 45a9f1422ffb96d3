-- The sample requests that are marked (*) in the table of samples, and how the outcome of one is written down. That each has its row is the
-- theorem `sample_rows` of proofs/Sentences/SampleRows. Assumes nothing.
use Rattle.std.specs.Prelude.{ℕ, List, [], ◌∷◌, ℤ, pos}
use Rattle.rules.specs.Types.{Order, Lsb0, Msb0, Span, Le, Be, Unsigned, Signed}
use Rattle.rules.specs.Positions.{span}
use Rattle.rules.specs.Calls.{Answer, done, a_number, Call, load, store, copy_within, answer, after}

-- a span in the first byte
abbrev pub at_head : Order → ℕ → ℕ → Span
at_head o head len = span o 0 head len

-- a request and the bytes that it is made on
pub record Sample : Type 0 where
  pub call : Call
  pub bytes : List ℕ

-- what it answers and what the bytes then are
pub record Outcome : Type 0 where
  pub said : Answer
  pub left : List ℕ

-- a sample run
abbrev pub outcome : Sample → Outcome
outcome s = record { said = answer 8 s.call s.bytes; left = after 8 s.call s.bytes }

-- a request on bytes
abbrev pub on : Call → List ℕ → Sample
on c ws = record { call = c; bytes = ws }

-- a load of the sample bytes, which stay
abbrev pub loads : ℤ → Outcome
loads v = record { said = a_number v; left = 0xB4 ∷ 0x6C ∷ 0xF1 ∷ [] }

-- a write that leaves these bytes
abbrev pub leaves : List ℕ → Outcome
leaves ws = record { said = done; left = ws }

-- the sample bytes
abbrev pub bytes : List ℕ
bytes = 0xB4 ∷ 0x6C ∷ 0xF1 ∷ []

-- three empty bytes
abbrev pub zeros : List ℕ
zeros = 0 ∷ 0 ∷ 0 ∷ []

-- head 4, 8 bits, le; same, be; same, signed K=8, le; head 3, 3 bits, le; head 4, 16 bits, le; store CB le at head 4, 8 bits; copy inside
abbrev pub samples : List Sample
samples =
    on (load (at_head Lsb0 4 8) 8 Le Unsigned) bytes
    ∷ on (load (at_head Msb0 4 8) 8 Le Unsigned) bytes
    ∷ on (load (at_head Lsb0 4 8) 8 Be Unsigned) bytes
    ∷ on (load (at_head Msb0 4 8) 8 Be Unsigned) bytes
    ∷ on (load (at_head Lsb0 4 8) 8 Le Signed) bytes
    ∷ on (load (at_head Lsb0 3 3) 8 Le Unsigned) bytes
    ∷ on (load (at_head Msb0 3 3) 8 Le Unsigned) bytes
    ∷ on (load (at_head Msb0 4 16) 16 Le Unsigned) bytes
    ∷ on (store (at_head Lsb0 4 8) 8 Le Unsigned (pos 0xCB)) zeros
    ∷ on (store (at_head Msb0 4 8) 8 Le Unsigned (pos 0xCB)) zeros
    ∷ on (copy_within (at_head Lsb0 0 8) 0 5 2) (0xB4 ∷ [])
    ∷ []
