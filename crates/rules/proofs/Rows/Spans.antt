-- Spans: their bits in document 01's words, split, and which positions they cover. Assumes nothing.
use mathlib.Core.Path.{◌≡◌, refl, ap, ap₂, ◌∙◌}
use mathlib.Core.Bool.{Bool, true, false, ◌&&◌, false≢true}
use mathlib.Core.List.{List}
use Prim.Native.Nat.{ℕ, ◌+◌, ◌-◌, ◌*◌, ◌/◌, ◌%◌, ◌≤◌, ◌<◌}
use native.Mathlib.Nat.{add_assoc, add-mul, mul-add-div_right, mul-add-mod_self_right, div-add-mod', mod-lt}
use native.Mathlib.Omega.{arith}
use lib.Dec.{leb, ltb}
use lib.ListN.{get_or}
use borrow.Author.Tests.{leb-true, ltb-true, le-leb, lt-ltb}
use Rattle.rules.specs.Types.{Order, Span}
use Rattle.rules.specs.Bits.{bit_n}
use Rattle.rules.specs.Positions.{position, mirror, row, start, span_bit, in_bounds, first_half, second_half, within, covers}
use Rattle.rules.proofs.Rows.Row.{row_is, mirror_at, mirror_twice}

-- Bit i of a span: with t = head + i, it is index t mod W of word (first word + t div W).
pub span_bit_lem : (W : ℕ) → 0 < W → (ws : List ℕ) (s : Span) (i : ℕ)
    → span_bit W ws s i ≡ bit_n (get_or ws (s.word + (s.head.0 + i) / W) 0) (position W s.order ((s.head.0 + i) % W))
unfolding span_bit start
span_bit_lem W pos ws s i =
    let t = s.head.0 + i in
    ap (row W s.order ws) (add_assoc (s.word * W) s.head.0 i) ∙ row_is W pos s.order ws (s.word * W + t)
    ∙ ap₂ (λ (x y : ℕ). bit_n (get_or ws x 0) (position W s.order y)) (mul-add-div_right pos s.word t) (mul-add-mod_self_right s.word W t)

-- ---- split

pub start_rest : (W : ℕ) (s : Span) (p : ℕ) → start W (second_half W s p) ≡ start W s + p
unfolding start
start_rest W s p = omega (arith, add-mul s.word ((s.head.0 + p) / W) W, div-add-mod' (s.head.0 + p) W)

pub split_first : (W : ℕ) (ws : List ℕ) (s : Span) (p i : ℕ) → span_bit W ws (first_half s p) i ≡ span_bit W ws s i
unfolding span_bit start
split_first W ws s p i = refl

pub split_rest : (W : ℕ) (ws : List ℕ) (s : Span) (p i : ℕ) → span_bit W ws (second_half W s p) i ≡ span_bit W ws s (p + i)
unfolding span_bit
split_rest W ws s p i = ap (λ (x : ℕ). row W s.order ws (x + i)) (start_rest W s p) ∙ ap (row W s.order ws) (add_assoc (start W s) p i)

pub in_bounds_lem : (W n : ℕ) (s : Span) → in_bounds W n s ≡ true → start W s + s.len ≤ n * W
unfolding in_bounds start
in_bounds_lem W n s e = leb-true (s.word * W + s.head.0 + s.len) (n * W) e

-- both halves of an in-bounds span are in bounds, and the rest has a head below W
pub split_in_bounds : (W : ℕ) → 0 < W → (n : ℕ) (s : Span) (p : ℕ) → in_bounds W n s ≡ true → p ≤ s.len
    → (in_bounds W n (first_half s p) ≡ true) × (in_bounds W n (second_half W s p) ≡ true) × ((second_half W s p).head.0 < W)
unfolding in_bounds
split_in_bounds W pos n s p e h =
    let b : s.word * W + s.head.0 + s.len ≤ n * W = leb-true _ (n * W) e in
    let t = s.head.0 + p in (
      le-leb _ (n * W) (omega arith),
      le-leb _ (n * W) (omega (arith, add-mul s.word (t / W) W, div-add-mod' t W)),
      mod-lt t pos,
    )

-- ---- covered positions

-- both of two tests
pub both : (a b : Bool) → (a && b) ≡ true → (a ≡ true) × (b ≡ true)
both true true e = (refl, refl)
both true false e = absurd (false≢true e)
both false b e = absurd (false≢true e)

pub within_low : (at n j : ℕ) → within at n j ≡ true → at ≤ j
unfolding within
within_low at n j e = leb-true at j (both (leb at j) (ltb j (at + n)) e).0

pub within_high : (at n j : ℕ) → within at n j ≡ true → j < at + n
unfolding within
within_high at n j e = ltb-true j (at + n) (both (leb at j) (ltb j (at + n)) e).1

pub within_between : (at n j : ℕ) → at ≤ j → j < at + n → within at n j ≡ true
unfolding within
within_between at n j a b = ap₂ ◌&&◌ (le-leb at j a) (lt-ltb j (at + n) b)

-- q is covered exactly if it is the real position of one of the places
pub covers_at : (W : ℕ) → 0 < W → (o : Order) (at n i : ℕ) → i < n → covers W o at n (mirror W o (at + i)) ≡ true
unfolding covers
covers_at W pos o at n i l = ap (within at n) (mirror_twice W pos o (at + i)) ∙ within_between at n (at + i) (omega arith) (omega arith)

pub covers_only : (W : ℕ) → 0 < W → (o : Order) (at n q : ℕ) → covers W o at n q ≡ true → (i : ℕ) × (i < n) × (mirror W o (at + i) ≡ q)
unfolding covers
covers_only W pos o at n q e =
    let lo = within_low at n (mirror W o q) e in
    let hi = within_high at n (mirror W o q) e in
    let back : at + (mirror W o q - at) ≡ mirror W o q = omega arith in
    (mirror W o q - at, omega arith, ap (mirror W o) back ∙ mirror_twice W pos o q)

-- the real position of bit i of a span, as a word and a position in it
pub span_position : (W : ℕ) → 0 < W → (s : Span) (i : ℕ)
    → mirror W s.order (start W s + i) ≡ (s.word + (s.head.0 + i) / W) * W + position W s.order ((s.head.0 + i) % W)
unfolding start
span_position W pos s i =
    let t = s.head.0 + i in
    ap (mirror W s.order) (omega (arith, add-mul s.word (t / W) W, div-add-mod' t W)) ∙ mirror_at W s.order (s.word + t / W) (t % W) (mod-lt t pos)

-- a part of a run lies in the run
pub covers_part : (W : ℕ) (o : Order) (at n from count q : ℕ) → from + count ≤ n → covers W o (at + from) count q ≡ true → covers W o at n q ≡ true
unfolding covers
covers_part W o at n from count q l e =
    let lo = within_low (at + from) count (mirror W o q) e in
    let hi = within_high (at + from) count (mirror W o q) e in
    within_between at n (mirror W o q) (omega arith) (omega arith)
