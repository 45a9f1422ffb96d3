-- The calls of document 01: what each answers, what memory holds after it, and, for one-buffer calls, which positions it reads and writes.
-- Cited by the promise of every call, and by the isolation theorem. Assumes nothing.
use Rattle.std.specs.Prelude.{ℕ, zero, suc, ◌+◌, ◌%◌, ◌^◌, Bool, true, false, ◌||◌, cond, List, length, ltb, ℤ, pos}
use Rattle.rules.specs.Types.{Order, Span, Significance, Sign, Verdict, Ok, Err}
use Rattle.rules.specs.Positions.{position, selector, mask, start, span_bit, first_half, second_half, spliced, covers}
use Rattle.rules.specs.Fields.{load_of, read_as, bits_of, store_of}
use Rattle.rules.specs.Rows.{copied, copied_within, combined, same_spans, first_with, last_with}
use Rattle.rules.specs.Refusals.{Case, number, verdict, span_cases, index_cases, mask_cases, split_cases, bit_cases, field_cases}
use Rattle.rules.specs.Refusals.{value_cases, fitting_cases, machine_cases, load_cases, store_cases, store_strict_cases, pair_cases}
use Rattle.rules.specs.Refusals.{copy_cases, within_cases}

-- what a call may answer
pub data Answer : Type 0 where
  refused : ℕ → Answer
  done : Answer
  a_position a_selector a_mask : ℕ → Answer
  a_span : Span → Answer
  two_spans : Span → Span → Answer
  a_bit : ℕ → Answer
  a_number : ℤ → Answer
  says_yes says_no : Answer
  found_at : ℕ → Answer
  absent : Answer

-- Each refusal returns its number alone.
abbrev pub said : Verdict → Answer → Answer
said (Ok _) a = a
said (Err r) a = refused (number r)

-- After a refusal all lent memory holds its old bits.
abbrev pub unless : {A : Type 0} → Verdict → A → A → A
unless (Ok _) new old = new
unless (Err r) new old = old

-- ---- position, selector and mask, which have no lent words; split, shortening and shifting, which are told the number n of words lent

-- the real position of index i
unfoldable pub position_answer : ℕ → Order → ℕ → Answer
position_answer W o i = said (verdict (index_cases W i)) (a_position (position W o i))

-- the selector of index i
unfoldable pub selector_answer : ℕ → Order → ℕ → Answer
selector_answer W o i = said (verdict (index_cases W i)) (a_selector (selector W o i))

-- the mask of the indexes from `from` up to but without `upto`
unfoldable pub mask_answer : ℕ → Order → ℕ → ℕ → Answer
mask_answer W o from upto = said (verdict (mask_cases W from upto)) (a_mask (mask W o from upto))

-- the first p bits, and the rest
unfoldable pub split_answer : ℕ → ℕ → Span → ℕ → Answer
split_answer W n s p = said (verdict (split_cases W n s p)) (two_spans (first_half s p) (second_half W s p))

-- the first p bits
unfoldable pub shorten_answer : ℕ → ℕ → Span → ℕ → Answer
shorten_answer W n s p = said (verdict (split_cases W n s p)) (a_span (first_half s p))

-- the rest
unfoldable pub shift_answer : ℕ → ℕ → Span → ℕ → Answer
shift_answer W n s p = said (verdict (split_cases W n s p)) (a_span (second_half W s p))

-- ---- values of fields of n bits, without words: what a store places, what a load of those bits returns, the machine's own numbers

-- the low n bits of a value, as a store places them
unfoldable pub low_bits_answer : ℕ → ℕ → Sign → ℤ → Answer
low_bits_answer K n g v = said (verdict (value_cases K n g v)) (a_number (pos (bits_of K v % 2 ^ n)))

-- the same of a value that fits, as a strict store places them
unfoldable pub fitting_answer : ℕ → ℕ → Sign → ℤ → Answer
fitting_answer K n g v = said (verdict (fitting_cases K n g v)) (a_number (pos (bits_of K v % 2 ^ n)))

-- the number that the low n bits of u stand for, as a load returns it
unfoldable pub read_answer : ℕ → ℕ → Sign → ℕ → Answer
read_answer K n g u = said (verdict (field_cases K n)) (a_number (read_as g n (u % 2 ^ n)))

-- a number that the machine's i64 holds
unfoldable pub machine_answer : ℤ → Answer
machine_answer v = said (verdict (machine_cases v)) (a_number v)

-- ---- swap: equal lengths, two buffers, each gets the other's old bits

-- one verdict for both
unfoldable pub swap_verdict : ℕ → List ℕ → Span → List ℕ → Span → Verdict
swap_verdict W ws s vs t = verdict (copy_cases W (length ws) s (length vs) t)

-- what the call answers
unfoldable pub swap_answer : ℕ → List ℕ → Span → List ℕ → Span → Answer
swap_answer W ws s vs t = said (swap_verdict W ws s vs t) done

-- what the left buffer then holds
unfoldable pub swap_left : ℕ → List ℕ → Span → List ℕ → Span → List ℕ
swap_left W ws s vs t = unless (swap_verdict W ws s vs t) (copied W ws s vs t) ws

-- what the right buffer then holds
unfoldable pub swap_right : ℕ → List ℕ → Span → List ℕ → Span → List ℕ
swap_right W ws s vs t = unless (swap_verdict W ws s vs t) (copied W vs t ws s) vs

-- ---- one-buffer calls: all the others. A read-only second buffer is part of a call's arguments.

-- a side of a comparison: the buffer itself, or a second one
pub data Side : Type 0 where
  here : Side
  there : List ℕ → Side

-- the calls and their arguments; an operation is its truth table's number, and a search names the bit that it looks for
pub data Call : Type 0 where
  read_bit : Span → ℕ → Call
  write_bit : Span → ℕ → Bool → Call
  load : Span → ℕ → Significance → Sign → Call
  store store_strict : Span → ℕ → Significance → Sign → ℤ → Call
  copy_from : Span → List ℕ → Span → Call
  copy_within : Span → ℕ → ℕ → ℕ → Call
  boolean : ℕ → Span → List ℕ → Span → Call
  equal : Side → Span → Side → Span → Call
  find_first find_last : ℕ → Span → Call

-- the words of a side
abbrev pub words_of : List ℕ → Side → List ℕ
words_of ws here = ws
words_of ws (there vs) = vs

-- how many they are
abbrev pub lent_of : ℕ → Side → ℕ
lent_of n here = n
lent_of n (there vs) = length vs

-- a bit as a number
abbrev pub digit : Bool → ℕ
digit true = 1
digit false = 0

-- a search's answer: absent exactly if there is none
abbrev pub first_found : ℕ → ℕ → Answer
first_found n i = cond (ltb i n) (found_at i) absent

-- the same of a last search, which counts from one more than the index
abbrev pub last_found : ℕ → Answer
last_found zero = absent
last_found (suc i) = found_at i

-- its table
unfoldable pub cases : ℕ → ℕ → Call → List Case
cases W n (read_bit s i) = bit_cases W n s i
cases W n (write_bit s i b) = bit_cases W n s i
cases W n (load s K e g) = load_cases W n s K
cases W n (store s K e g v) = store_cases W n s K g v
cases W n (store_strict s K e g v) = store_strict_cases W n s K g v
cases W n (copy_from s vs t) = copy_cases W n s (length vs) t
cases W n (copy_within s from count to) = within_cases W n s from count to
cases W n (boolean op s vs t) = pair_cases W n s (length vs) t
cases W n (equal a s b t) = pair_cases W (lent_of n a) s (lent_of n b) t
cases W n (find_first v s) = span_cases W n s
cases W n (find_last v s) = span_cases W n s

-- what it answers if it is not refused
unfoldable pub answer! : ℕ → Call → List ℕ → Answer
answer! W (read_bit s i) ws = a_bit (span_bit W ws s i)
answer! W (write_bit s i b) ws = done
answer! W (load s K e g) ws = a_number (read_as g s.len (load_of W s.order e ws (start W s) s.len))
answer! W (store s K e g v) ws = done
answer! W (store_strict s K e g v) ws = done
answer! W (copy_from s vs t) ws = done
answer! W (copy_within s from count to) ws = done
answer! W (boolean op s vs t) ws = done
answer! W (equal a s b t) ws = cond (same_spans W (words_of ws a) s (words_of ws b) t) says_yes says_no
answer! W (find_first v s) ws = first_found s.len (first_with s.len (span_bit W ws s) v)
answer! W (find_last v s) ws = last_found (last_with s.len (span_bit W ws s) v)

-- what the buffer then holds
unfoldable pub after! : ℕ → Call → List ℕ → List ℕ
after! W (read_bit s i) ws = ws
after! W (write_bit s i b) ws = spliced W s.order ws (start W s + i) 1 (λ _. digit b)
after! W (load s K e g) ws = ws
after! W (store s K e g v) ws = store_of W s.order e ws (start W s) s.len (bits_of K v)
after! W (store_strict s K e g v) ws = store_of W s.order e ws (start W s) s.len (bits_of K v)
after! W (copy_from s vs t) ws = copied W ws s vs t
after! W (copy_within s from count to) ws = copied_within W ws s from count to
after! W (boolean op s vs t) ws = combined W op ws s vs t
after! W (equal a s b t) ws = ws
after! W (find_first v s) ws = ws
after! W (find_last v s) ws = ws

-- A position is a word and a real position in it: q is real position q mod W of word q div W.
abbrev pub span_covers : ℕ → Span → ℕ → Bool
span_covers W s q = covers W s.order (start W s) s.len q

-- of a comparison's side: its span, where it lies in this buffer
abbrev pub side_reads : ℕ → Side → Span → ℕ → Bool
side_reads W here s q = span_covers W s q
side_reads W (there vs) s q = false

-- the positions that it reads
unfoldable pub reads! : ℕ → Call → ℕ → Bool
reads! W (read_bit s i) q = covers W s.order (start W s + i) 1 q
reads! W (write_bit s i b) q = false
reads! W (load s K e g) q = span_covers W s q
reads! W (store s K e g v) q = false
reads! W (store_strict s K e g v) q = false
reads! W (copy_from s vs t) q = false
reads! W (copy_within s from count to) q = covers W s.order (start W s + from) count q
reads! W (boolean op s vs t) q = span_covers W s q
reads! W (equal a s b t) q = side_reads W a s q || side_reads W b t q
reads! W (find_first v s) q = span_covers W s q
reads! W (find_last v s) q = span_covers W s q

-- the positions that it writes
unfoldable pub writes! : ℕ → Call → ℕ → Bool
writes! W (read_bit s i) q = false
writes! W (write_bit s i b) q = covers W s.order (start W s + i) 1 q
writes! W (load s K e g) q = false
writes! W (store s K e g v) q = span_covers W s q
writes! W (store_strict s K e g v) q = span_covers W s q
writes! W (copy_from s vs t) q = span_covers W s q
writes! W (copy_within s from count to) q = covers W s.order (start W s + to) count q
writes! W (boolean op s vs t) q = span_covers W s q
writes! W (equal a s b t) q = false
writes! W (find_first v s) q = false
writes! W (find_last v s) q = false

-- and so for every call: a refused one answers its number, changes nothing, reads and writes nothing
unfoldable pub answer : ℕ → Call → List ℕ → Answer
answer W c ws = said (verdict (cases W (length ws) c)) (answer! W c ws)

-- what it leaves
unfoldable pub after : ℕ → Call → List ℕ → List ℕ
after W c ws = unless (verdict (cases W (length ws) c)) (after! W c ws) ws

-- what it reads
unfoldable pub reads : ℕ → ℕ → Call → ℕ → Bool
reads W n c q = unless (verdict (cases W n c)) (reads! W c q) false

-- what it writes
unfoldable pub writes : ℕ → ℕ → Call → ℕ → Bool
writes W n c q = unless (verdict (cases W n c)) (writes! W c q) false
