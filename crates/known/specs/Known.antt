-- Many fields at once: the loads mixed into one number, the stores one after the other. Field i has k bits, is Lsb0 and begins at head hs i of word
-- ps i. Cited by the promises of this crate. Assumes nothing.
use Rattle.std.specs.Prelude.{ℕ, zero, suc, ◌*◌, ◌/◌, ◌%◌, ◌^◌, cond, List, ltb, pos, negsuc, length, get_or}
use Rattle.std.specs.Int.Bits.{bit_or, bit_xor}
use Rattle.rules.specs.declared.Order.TheVariants.{Lsb0}
use Rattle.rules.specs.declared.Span.{Span}
use Rattle.rules.specs.declared.Significance.TheVariants.{Le}
use Rattle.rules.specs.declared.Sign.TheVariants.{Unsigned}
use Rattle.rules.specs.Positions.{span}
use Rattle.rules.specs.Calls.{Answer, refused, done, a_position, a_selector, a_mask, a_span, two_spans, a_bit, a_number, says_yes, says_no}
use Rattle.rules.specs.Calls.{found_at, absent, load, store, answer, after}

-- the field of k bits at a head of a word
abbrev pub field_at : ℕ → ℕ → ℕ → Span
field_at word head k = span Lsb0 word head k

-- the number that a load answers, 0 where it is refused
abbrev pub unsigned_of : Answer → ℕ
unsigned_of (refused n) = 0
unsigned_of done = 0
unsigned_of (a_position p) = 0
unsigned_of (a_selector s) = 0
unsigned_of (a_mask m) = 0
unsigned_of (a_span s) = 0
unsigned_of (two_spans s t) = 0
unsigned_of (a_bit b) = 0
unsigned_of (a_number (pos n)) = n
unsigned_of (a_number (negsuc n)) = 0
unsigned_of says_yes = 0
unsigned_of says_no = 0
unsigned_of (found_at i) = 0
unsigned_of absent = 0

-- one more number: the mix turned by one bit, and the number's bits exchanged into it
abbrev pub mix_in : ℕ → ℕ → ℕ
mix_in mix n = bit_xor (bit_or (mix * 2 % 2 ^ 64) (mix / 2 ^ 63)) n

-- the first i fields loaded and mixed
unfoldable pub mix_after : ℕ → ℕ → List ℕ → List ℕ → List ℕ → ℕ → ℕ
mix_after W k ws ps hs zero = 0
mix_after W k ws ps hs (suc i) = mix_in (mix_after W k ws ps hs i) (unsigned_of (answer W (load (field_at (get_or ps i 0) (get_or hs i 0) k) k Le Unsigned) ws))

-- a value stored in the first i fields
unfoldable pub stored_after : ℕ → ℕ → ℕ → List ℕ → List ℕ → List ℕ → ℕ → List ℕ
stored_after W k v ws ps hs zero = ws
stored_after W k v ws ps hs (suc i) = after W (store (field_at (get_or ps i 0) (get_or hs i 0) k) k Le Unsigned (pos v)) (stored_after W k v ws ps hs i)

-- of all fields; nothing where there are fewer heads than words
abbrev pub mixed : ℕ → ℕ → List ℕ → List ℕ → List ℕ → ℕ → ℕ
mixed W k ws ps hs old = cond (ltb (length hs) (length ps)) old (mix_after W k ws ps hs (length ps))

abbrev pub stored : ℕ → ℕ → ℕ → List ℕ → List ℕ → List ℕ → List ℕ
stored W k v ws ps hs = cond (ltb (length hs) (length ps)) ws (stored_after W k v ws ps hs (length ps))
