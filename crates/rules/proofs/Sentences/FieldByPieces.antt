-- A field in the words of the rules: cut it where words end, read each piece as a number with the word's own significance, and put the pieces
-- together, the first least significant with le and most significant with be. Assumes nothing.
use mathlib.Core.Path.{◌≡◌, refl, sym, ap, ap₂, ◌∙◌}
use mathlib.Core.List.{List, [], ◌∷◌}
use Prim.Native.Nat.{ℕ, zero, suc, ◌+◌, ◌-◌, ◌*◌, ◌/◌, ◌%◌, ◌^◌, ◌≤◌, ◌<◌, min}
use native.Mathlib.Nat.{zero-mul, add-mul, div-add-mod', mod-lt, one-mul}
use native.Mathlib.Decide.{dec_le}
use native.Mathlib.Omega.{arith}
use lib.ListN.{get_or}
use Rattle.rules.specs.Types.{Order, Significance, Le, Be}
use Rattle.rules.specs.Fields.{weigh, load_of}
use Rattle.rules.proofs.Fields.Field.{lowest, load_one, load_le, load_be}

-- a piece: a number and how many bits it has
pub record Piece : Type 0 where
  pub value : ℕ
  pub len : ℕ

-- n bits of a word from index h on, its lowest position worth 1
abbrev pub read : ℕ → Order → ℕ → ℕ → ℕ → Piece
read W o word h n = record { value = word / 2 ^ lowest W o h n % 2 ^ n; len = n }

-- the first of n bits from the place `at` on that lie in one word
abbrev pub first_length : ℕ → ℕ → ℕ → ℕ
first_length W at n = min n (W - at % W)

-- Cut where words end: the pieces of n bits from the place `at` on, at most `most` of them
unfoldable pub pieces : ℕ → Order → List ℕ → ℕ → ℕ → ℕ → List Piece
pieces W o ws zero at n = []
pieces W o ws (suc most) at zero = []
pieces W o ws (suc most) at (suc n) =
    read W o (get_or ws (at / W) 0) (at % W) (first_length W at (suc n))
    ∷ pieces W o ws most (at + first_length W at (suc n)) (suc n - first_length W at (suc n))

unfoldable pub total : List Piece → ℕ
total [] = 0
total (p ∷ t) = p.len + total t

-- With le the first piece is the least significant; with be the first piece is the most significant.
unfoldable pub joined : Significance → List Piece → ℕ
joined Le [] = 0
joined Le (p ∷ t) = joined Le t * 2 ^ p.len + p.value
joined Be [] = 0
joined Be (p ∷ t) = p.value * 2 ^ total t + joined Be t

module _ (W : ℕ) (pos : 0 < W) (o : Order) (ws : List ℕ) where
  -- together they have n bits
  pub pieces_total : (most at n : ℕ) → n ≤ most → total (pieces W o ws most at n) ≡ n
  unfolding pieces total
  pieces_total zero at n h = omega arith
  pieces_total (suc most) at zero h = refl
  pieces_total (suc most) at (suc n) h =
      let l = first_length W at (suc n) in
      let r = mod-lt at pos in
      omega (arith, pieces_total most (at + l) (suc n - l) (omega arith))

  -- a run that ends within its first word is one piece
  within_word : (e : Significance) (at n : ℕ) → at % W + n ≤ W → load_of W o e ws at n ≡ get_or ws (at / W) 0 / 2 ^ lowest W o (at % W) n % 2 ^ n
  within_word e at n h = ap (λ (x : ℕ). load_of W o e ws x n) (sym (div-add-mod' at W)) ∙ load_one W pos (at / W) (at % W) n h o e ws

  -- the first piece, where more follow, ends where its word ends
  at_edge : (at : ℕ) → at + (W - at % W) ≡ (at / W + 1) * W
  at_edge at = omega (arith, add-mul (at / W) 1 W, one-mul W, div-add-mod' at W, mod-lt at pos)

  load_none : (e : Significance) (at : ℕ) → load_of W o e ws at 0 ≡ 0
  unfolding load_of weigh
  load_none e at = refl

  -- a first piece and a rest, which may have no bits
  cut_le : (at n : ℕ) → load_of W o Le ws at n ≡ load_of W o Le ws (at + first_length W at n) (n - first_length W at n) * 2 ^ first_length W at n + load_of W o Le ws at (first_length W at n)
  cut_le at n = go (dec_le n (W - at % W))
    where
      go : Dec (n ≤ W - at % W) → load_of W o Le ws at n ≡ load_of W o Le ws (at + first_length W at n) (n - first_length W at n) * 2 ^ first_length W at n + load_of W o Le ws at (first_length W at n)
      go (yes h) =
          let p : min n (W - at % W) ≡ n = omega arith in
          let q : n - n ≡ 0 = omega arith in
          rw (p, q, load_none Le (at + n)) (omega (arith, zero-mul (2 ^ n)))
      go (no h) =
          let p : min n (W - at % W) ≡ W - at % W = omega arith in
          let q : W - at % W + (n - (W - at % W)) ≡ n = omega arith in
          rw p (ap (load_of W o Le ws at) (sym q) ∙ load_le W pos at (W - at % W) (n - (W - at % W)) (at / W + 1) (at_edge at) o ws)

  cut_be : (at n : ℕ) → load_of W o Be ws at n ≡ load_of W o Be ws at (first_length W at n) * 2 ^ (n - first_length W at n) + load_of W o Be ws (at + first_length W at n) (n - first_length W at n)
  cut_be at n = go (dec_le n (W - at % W))
    where
      go : Dec (n ≤ W - at % W) → load_of W o Be ws at n ≡ load_of W o Be ws at (first_length W at n) * 2 ^ (n - first_length W at n) + load_of W o Be ws (at + first_length W at n) (n - first_length W at n)
      go (yes h) =
          let p : min n (W - at % W) ≡ n = omega arith in
          let q : n - n ≡ 0 = omega arith in
          rw (p, q, load_none Be (at + n)) (omega arith)
      go (no h) =
          let p : min n (W - at % W) ≡ W - at % W = omega arith in
          let q : W - at % W + (n - (W - at % W)) ≡ n = omega arith in
          rw p (ap (load_of W o Be ws at) (sym q) ∙ load_be W pos at (W - at % W) (n - (W - at % W)) (at / W + 1) (at_edge at) o ws)

  -- the field is the number that its pieces make
  pub load_pieces : (e : Significance) (most at n : ℕ) → n ≤ most → load_of W o e ws at n ≡ joined e (pieces W o ws most at n)
  unfolding pieces joined
  load_pieces Le zero at n h = let z : n ≡ 0 = omega arith in ap (load_of W o Le ws at) z ∙ load_none Le at
  load_pieces Be zero at n h = let z : n ≡ 0 = omega arith in ap (load_of W o Be ws at) z ∙ load_none Be at
  load_pieces Le (suc most) at zero h = load_none Le at
  load_pieces Be (suc most) at zero h = load_none Be at
  load_pieces Le (suc most) at (suc n) h =
      let l = first_length W at (suc n) in
      let r = mod-lt at pos in
      cut_le at (suc n)
      ∙ ap₂ (λ (a b : ℕ). a * 2 ^ l + b) (load_pieces Le most (at + l) (suc n - l) (omega arith)) (within_word Le at l (omega arith))
  load_pieces Be (suc most) at (suc n) h =
      let l = first_length W at (suc n) in
      let r = mod-lt at pos in
      let t : suc n - l ≡ total (pieces W o ws most (at + l) (suc n - l)) = sym (pieces_total most (at + l) (suc n - l) (omega arith)) in
      cut_be at (suc n)
      ∙ ap₂ (λ (a b : ℕ). a * 2 ^ (suc n - l) + b) (within_word Be at l (omega arith)) (load_pieces Be most (at + l) (suc n - l) (omega arith))
      ∙ ap (λ (x : ℕ). (get_or ws (at / W) 0 / 2 ^ lowest W o (at % W) l % 2 ^ l) * 2 ^ x + joined Be (pieces W o ws most (at + l) (suc n - l))) t
