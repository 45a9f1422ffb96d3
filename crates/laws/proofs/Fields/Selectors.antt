-- A word's bit by its selector: the word and the selector have the bit in common, so it is a one exactly if that is not 0. Assumes nothing.
use Prim.Native.Nat.{ℕ, ◌+◌, ◌-◌, ◌*◌, ◌/◌, ◌%◌, ◌^◌, ◌<◌}
use mathlib.Core.Path.{◌≡◌, refl, sym, ap, ◌∙◌}
use mathlib.Core.Logic.{◌⊎◌, inl, inr}
use mathlib.Core.Bool.{not}
use mathlib.Core.List.{List}
use native.Mathlib.Nat.{zero-mul, one-mul}
use native.Mathlib.Omega.{arith}
use borrow.Author.Tests.{ne_eqb}
use lib.ListN.{length, get_or}
use lib.Dec.{eqb}
use lib.Bits.{bit_and, and_high}
use lib.Pow.{pow-add, pow_pos}
use Rattle.laws.specs.Types.{Span, Ok}
use Rattle.rules.specs.Bits.{bit_n}
use Rattle.rules.specs.Positions.{position}
use Rattle.rules.specs.Refusals.{verdict, bit_cases}
use Rattle.rules.specs.Calls.{a_bit, digit, read_bit, cases, answer!, answer}
use Rattle.rules.proofs.Bits.Bit.{bit_lt, bit_cases_lem}
use Rattle.rules.proofs.Rows.Spans.{span_bit_lem}
use Rattle.rules.proofs.Refusals.Accepted.{fine_bit}
use Rattle.rules.proofs.Sentences.Sentences.{accepted_call}

and_selector : (x p : ℕ) → bit_and x (2 ^ p) ≡ bit_n x p * 2 ^ p
unfolding bit_n
and_selector x p =
    let e : 2 ^ p ≡ 2 ^ (1 + p) - 2 ^ p = omega (arith, pow-add 2 1 p) in
    ap (bit_and x) e ∙ and_high x 1 p

told : (b t : ℕ) → b < 2 → 0 < t → digit (not (eqb (b * t) 0)) ≡ b
told b t h pos = go (bit_cases_lem b h)
  where
    go : (b ≡ 0) ⊎ (b ≡ 1) → digit (not (eqb (b * t) 0)) ≡ b
    go (inl e) = rw (e, zero-mul t) refl
    go (inr e) = rw (e, one-mul t, ne_eqb t 0 (λ z. omega arith)) refl

-- the bit, as a test of what its word and its selector have in common
pub read_selected : (W : ℕ) (ws : List ℕ) (s : Span) (i : ℕ) {p x m : ℕ} → verdict (bit_cases W (length ws) s i) ≡ Ok tt
    → p ≡ position W s.order ((s.head.0 + i) % W) → m ≡ 2 ^ p → x ≡ get_or ws (s.word + (s.head.0 + i) / W) 0
    → a_bit (digit (not (eqb (bit_and x m) 0))) ≡ answer W (read_bit s i) ws
unfolding cases answer!
read_selected W ws s i {p} {x} {m} e q d g =
    let b = fine_bit W (length ws) s i e in
    ap (λ (y : ℕ). a_bit (digit (not (eqb y 0)))) (ap (bit_and x) d ∙ and_selector x p)
    ∙ ap a_bit (told (bit_n x p) (2 ^ p) (bit_lt x p) (pow_pos p) ∙ ap (λ (y : ℕ). bit_n y p) g ∙ ap (bit_n (get_or ws (s.word + (s.head.0 + i) / W) 0)) q ∙ sym (span_bit_lem W b.wide ws s i))
    ∙ sym (accepted_call W (read_bit s i) ws e).0
