-- A field seen from its beginning, as code looks at it where a field is no longer than a word: K and the length are good and the first word is
-- lent. Then it is accepted within that word, and across its end where one word more is lent. Assumes nothing.
use Prim.Native.Nat.{ℕ, ◌+◌, ◌*◌, ◌≤◌, ◌<◌}
use mathlib.Core.Path.{◌≡◌, ap, ◌∙◌}
use mathlib.Core.Bool.{true, not}
use native.Mathlib.Nat.{mul-le-mul, add-mul}
use native.Mathlib.Decide.{dec_lt}
use native.Mathlib.Omega.{arith}
use borrow.Author.Tests.{le-leb, lt-leb}
use Rattle.laws.specs.Types.{Span, Ok, Err, IndexTooLarge, OutOfBounds}
use Rattle.rules.specs.Positions.{in_bounds}
use Rattle.rules.specs.Fields.{is_size}
use Rattle.rules.specs.Refusals.{verdict, span_cases, field_cases, load_cases}
use Rattle.rules.proofs.Refusals.Tables.{stops, goes, refused_2, refused_3, none_refused, field_fine}
use Rattle.rules.proofs.Refusals.Accepted.{Load, fine_load}

pub record Begun (n word len K : ℕ) : Type 0 where
  pub few : n ≤ 65536
  pub first : word < n
  pub some : len ≡ 0 → ⊥
  pub fitting : len ≤ K
  pub sized : is_size K ≡ true

module _ (W n : ℕ) (s : Span) (K : ℕ) where
  -- nothing else is accepted
  pub fine_begun : verdict (load_cases W n s K) ≡ Ok tt → Begun n s.word s.len K
  fine_begun e =
      let f = fine_load W n s K e in
      record { few = f.lies.few; first = lent f (dec_lt s.word n); some = none f; fitting = f.sized.fitting; sized = f.sized.listed }
    where
      lent : Load W n s K → Dec (s.word < n) → s.word < n
      lent f (yes l) = l
      lent f (no l) =
          let i = f.lies.ends in
          let z = f.sized.some in
          absurd (omega (arith, mul-le-mul {n₁ = n} {m₁ = W} {n₂ = s.word} {m₂ = W} (omega arith) (omega arith)))

      none : Load W n s K → s.len ≡ 0 → ⊥
      none f h = let z = f.sized.some in omega arith

  module _ (b : Begun n s.word s.len K) where
    accepted : s.head.0 < W → s.word * W + s.head.0 + s.len ≤ n * W → verdict (load_cases W n s K) ≡ Ok tt
    unfolding load_cases in_bounds
    accepted h e =
        goes (span_cases W n s) (field_cases K s.len) (none_refused W n s b.few h (ap not (le-leb (s.word * W + s.head.0 + s.len) (n * W) e)))
        ∙ field_fine K s.len b.sized b.some b.fitting

    step : s.word * W + W ≤ n * W
    step = omega (arith, mul-le-mul {n₁ = s.word + 1} {m₁ = W} {n₂ = n} {m₂ = W} (omega (arith, b.first)) (omega arith), add-mul s.word 1 W)

    -- within the first word
    pub within_fine : s.head.0 + s.len ≤ W → verdict (load_cases W n s K) ≡ Ok tt
    within_fine h = accepted (omega (arith, b.some)) (omega (arith, step))

    -- across its end
    pub across_fine : s.head.0 < W → s.len ≤ W → s.word + 1 < n → verdict (load_cases W n s K) ≡ Ok tt
    across_fine h l m = accepted h (omega (arith, mul-le-mul {n₁ = s.word + 2} {m₁ = W} {n₂ = n} {m₂ = W} (omega arith) (omega arith), add-mul s.word 2 W))

    pub head_refused : W ≤ s.head.0 → verdict (load_cases W n s K) ≡ Err IndexTooLarge
    unfolding load_cases
    head_refused h = stops (span_cases W n s) (field_cases K s.len) (refused_2 W n s b.few h)

    pub end_refused : s.head.0 < W → W < s.head.0 + s.len → n ≤ s.word + 1 → verdict (load_cases W n s K) ≡ Err OutOfBounds
    unfolding load_cases in_bounds
    end_refused h l m = stops (span_cases W n s) (field_cases K s.len) (refused_3 W n s b.few h (ap not (lt-leb (s.word * W + s.head.0 + s.len) (n * W) (omega (arith, mul-le-mul {n₁ = n} {m₁ = W} {n₂ = s.word + 1} {m₂ = W} m (omega arith), add-mul s.word 1 W)))))
