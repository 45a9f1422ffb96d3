-- What a search of a span answers, from the number that a search of its row gives. Assumes nothing.
use mathlib.Core.Path.{◌≡◌, sym, ap, ◌∙◌}
use mathlib.Core.List.{List}
use Prim.Native.Nat.{ℕ, suc, ◌+◌, ◌-◌, ◌*◌, ◌≤◌, ◌<◌}
use native.Mathlib.Omega.{arith}
use lib.ListN.{length}
use borrow.Author.Tests.{lt-ltb, le-ltb}
use Rattle.rules.specs.Types.{Span, Refusal, Ok, Err}
use Rattle.rules.specs.Positions.{row, start, span_bit}
use Rattle.rules.specs.Rows.{first_with, last_with}
use Rattle.rules.specs.Refusals.{number, verdict, span_cases}
use Rattle.rules.specs.Calls.{Answer, refused, found_at, absent, find_first, find_last, first_found, last_found, cases, answer!, answer}

module _ (W v : ℕ) (s : Span) (ws : List ℕ) where
  -- ---- from a table's verdict and a row's search

  pub first_refused : {r : Refusal} → verdict (span_cases W (length ws) s) ≡ Err r → refused (number r) ≡ answer W (find_first v s) ws
  unfolding answer cases
  first_refused e = rw e

  pub last_refused : {r : Refusal} → verdict (span_cases W (length ws) s) ≡ Err r → refused (number r) ≡ answer W (find_last v s) ws
  unfolding answer cases
  last_refused e = rw e

  module _ (fine : verdict (span_cases W (length ws) s) ≡ Ok tt) where
    pub first_said : answer W (find_first v s) ws ≡ first_found s.len (first_with s.len (span_bit W ws s) v)
    unfolding answer answer! cases
    first_said = rw fine

    pub last_said : answer W (find_last v s) ws ≡ last_found (last_with s.len (span_bit W ws s) v)
    unfolding answer answer! cases
    last_said = rw fine

    -- the row's number, as code has it
    pub answers_first : {r : ℕ} {a : Answer} → r ≡ first_with s.len (λ i. row W s.order ws (s.word * W + s.head.0 + i)) v
        → a ≡ first_found s.len r → a ≡ answer W (find_first v s) ws
    unfolding span_bit start
    answers_first is e = e ∙ ap (first_found s.len) is ∙ sym first_said

    pub answers_last : {r : ℕ} {a : Answer} → r ≡ last_with s.len (λ i. row W s.order ws (s.word * W + s.head.0 + i)) v
        → a ≡ last_found r → a ≡ answer W (find_last v s) ws
    unfolding span_bit start
    answers_last is e = e ∙ ap last_found is ∙ sym last_said

-- the answers of a number that is found, and of one that is not
pub first_here_said : (r n : ℕ) → r < n → found_at r ≡ first_found n r
first_here_said r n h = rw (lt-ltb r n h)

pub first_none_said : (r n : ℕ) → n ≤ r → absent ≡ first_found n r
first_none_said r n h = rw (le-ltb r n h)

pub last_here_said : (r : ℕ) → 0 < r → found_at (r - 1) ≡ last_found r
last_here_said r h = let e : suc (r - 1) ≡ r = omega arith in ap last_found e

pub last_none_said : (r : ℕ) → r ≡ 0 → absent ≡ last_found r
last_none_said r h = ap last_found (sym h)
