-- Two parties in one byte: the mission's third demand speaks of this mixture, and what it says is computed. Assumes nothing.
use Prim.Native.Nat.{ℕ, ◌+◌, ◌-◌, ◌*◌, ◌/◌, ◌%◌}
use mathlib.Core.Path.{◌≡◌, refl}
use mathlib.Core.Bool.{Bool, true, false, ◌||◌, false≢true}
use mathlib.Core.List.{List, [], ◌∷◌}
use native.Mathlib.Omega.{arith}
use lib.Dec.{lit<, lit≤}
use lib.IntN.{pos}
use Rattle.rules.specs.Types.{Lsb0, Msb0, Span, Refusal, IndexTooLarge, DoesNotFit, Verdict, Ok, Err, Le, Be, Unsigned}
use Rattle.rules.specs.Bits.{bit_n, of_bits, tabulate, bit_at, from_bits}
use Rattle.rules.specs.Positions.{position, mirror, row, from_row, start, span_bit, in_bounds, within, over, spliced, covers}
use Rattle.rules.specs.Fields.{exponent, weigh, load_of, read_as, bits_of, store_of, is_size, is_integer, fits}
use Rattle.rules.specs.Rows.{moved, copied_within, applied, right_bit, combined, same_bits, same_spans, first_with}
use Rattle.rules.specs.Refusals.{verdict, span_cases, field_cases, value_cases, fitting_cases, bit_cases, load_cases, store_cases, store_strict_cases, pair_cases, within_cases}
use Rattle.rules.specs.Calls.{refused, done, a_number, says_yes, found_at, here, read_bit, load, store, store_strict, copy_within, boolean, equal, find_first, span_covers, cases, answer!, after!, reads!, writes!, answer, after}
use Rattle.rules.specs.Mixtures.{Party, one, two, Of, of, All, mixed_answers, mixed_final, Asked, call, told, left, Separate, Within, Isolated}
use Rattle.rules.specs.Samples.{at_head}
use Rattle.rules.proofs.Rows.Spans.{within_low, within_high, covers_part}
use Rattle.rules.proofs.Isolation.Isolation.{isolation}

-- The first has positions 0 to 3 and works in Lsb0, the second positions 4 to 7 and works in Msb0.
abbrev low : Span
low = at_head Lsb0 0 4

abbrev high : Span
high = at_head Msb0 0 4

abbrev pub Shares : Party → ℕ → Type 0
Shares one q = span_covers 8 (at_head Lsb0 0 4) q ≡ true
Shares two q = span_covers 8 (at_head Msb0 0 4) q ≡ true

apart : Separate Shares
unfolding covers mirror position start
apart q a b =
    let x = within_high (0 * 8 + 0) 4 (q / 8 * 8 + q % 8) a in
    let y = within_high (0 * 8 + 0) 4 (q / 8 * 8 + (8 - 1 - q % 8)) b in
    let z = within_low (0 * 8 + 0) 4 (q / 8 * 8 + (8 - 1 - q % 8)) b in
    omega arith

-- a mixture in which two calls are refused, one by 9 and one by 2
abbrev pub mixture : List (Of Asked)
mixture =
    of one (call (store low 8 Le Unsigned (pos 9))) ∷ of two (call (find_first 0 high)) ∷ of two (call (copy_within high 0 2 1)) ∷ of one (call (store_strict low 8 Le Unsigned (pos 16)))
    ∷ of two (call (load high 8 Be Unsigned)) ∷ of one (call (load low 8 Le Unsigned)) ∷ of two (call (read_bit (at_head Msb0 8 1) 0)) ∷ of two (call (equal here high here high))
    ∷ of one (call (boolean 6 low (0xF ∷ []) low)) ∷ []

pub mixture_answers :
    mixed_answers (told 8) (left 8) mixture (0xB4 ∷ [])
    ≡ of one done ∷ of two (found_at 1) ∷ of two done ∷ of one (refused 9) ∷ of two (a_number (pos 13)) ∷ of one (a_number (pos 9)) ∷ of two (refused 2)
    ∷ of two says_yes ∷ of one done ∷ []
unfolding mixed_answers bit_n of_bits tabulate bit_at from_bits position mirror row from_row start span_bit in_bounds within over spliced exponent weigh load_of read_as bits_of store_of is_size is_integer fits moved copied_within applied right_bit combined same_bits same_spans first_with verdict span_cases field_cases value_cases fitting_cases bit_cases load_cases store_cases store_strict_cases pair_cases within_cases cases answer! after! answer after
mixture_answers = refl

pub mixture_final : mixed_final (told 8) (left 8) mixture (0xB4 ∷ []) ≡ 0xD6 ∷ []
unfolding mixed_final bit_n of_bits tabulate bit_at from_bits position mirror row from_row start span_bit in_bounds within over spliced exponent weigh load_of read_as bits_of store_of is_size is_integer fits moved copied_within applied right_bit combined same_bits same_spans first_with verdict span_cases field_cases value_cases fitting_cases bit_cases load_cases store_cases store_strict_cases pair_cases within_cases cases answer! after! answer after
mixture_final = refl

-- either of two tests true, each of which gives the same
joined : (a b c : Bool) → (a ≡ true → c ≡ true) → (b ≡ true → c ≡ true) → (a || b) ≡ true → c ≡ true
joined true b c f g e = f refl
joined false b c f g e = g e

never : (c : Bool) → false ≡ true → c ≡ true
never c e = absurd (false≢true e)

-- a refused call need not keep to anything
gone : (r : Refusal) {A : Type 0} → ◌≡◌ {A = Verdict} (Err r) (Ok tt) → A
gone r e = let z : ◌≡◌ {A = ℕ} 0 1 = cc in absurd (omega arith)

pub mixture_kept : All (Within 8 1 Shares) mixture
unfolding reads! writes! cases verdict span_cases field_cases value_cases fitting_cases bit_cases load_cases store_cases store_strict_cases pair_cases within_cases in_bounds is_size is_integer fits
mixture_kept = (
  (λ _ q e. e),
  (
    (λ _ q. joined (span_covers 8 high q) false (span_covers 8 high q) (λ e. e) (never _)),
    (
      (λ _ q. joined (covers 8 Msb0 (start 8 high + 0) 2 q) (covers 8 Msb0 (start 8 high + 1) 2 q) (span_covers 8 high q) (covers_part 8 Msb0 (start 8 high) 4 0 2 q (lit≤ tt)) (covers_part 8 Msb0 (start 8 high) 4 1 2 q (lit≤ tt))),
      (
        (λ r. gone DoesNotFit r),
        (
          (λ _ q. joined (span_covers 8 high q) false (span_covers 8 high q) (λ e. e) (never _)),
          (
            (λ _ q. joined (span_covers 8 low q) false (span_covers 8 low q) (λ e. e) (never _)),
            (
              (λ r. gone IndexTooLarge r),
              (
                (λ _ q. joined (span_covers 8 high q || span_covers 8 high q) false (span_covers 8 high q) (joined (span_covers 8 high q) (span_covers 8 high q) (span_covers 8 high q) (λ e. e) (λ e. e)) (never _)),
                ((λ _ q. joined (span_covers 8 low q) (span_covers 8 low q) (span_covers 8 low q) (λ e. e) (λ e. e)), tt),
              ),
            ),
          ),
        ),
      ),
    ),
  ),
)

pub mixture_isolated : Isolated 8 (0xB4 ∷ []) Shares mixture
mixture_isolated = isolation 8 (lit< tt) (0xB4 ∷ []) Shares apart mixture mixture_kept
