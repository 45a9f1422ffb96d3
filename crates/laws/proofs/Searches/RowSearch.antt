-- A search through a row: a first piece, whole words that are passed over because they are the flip, and one piece that settles it. Assumes nothing.
use mathlib.Core.Path.{◌≡◌, refl, sym, ap, ◌∙◌, subst}
use mathlib.Core.Logic.{◌⊎◌, inl, inr, ◌≢◌}
use mathlib.Core.List.{List}
use mathlib.Core.Bool.{Bool, true, false}
use Prim.Native.Nat.{ℕ, zero, suc, ◌+◌, ◌-◌, ◌*◌, ◌/◌, ◌%◌, ◌≤◌, ◌<◌}
use native.Mathlib.Nat.{mod-lt, le-div_iff_mul-le, div-lt_iff_lt-mul}
use native.Mathlib.Decide.{dec_lt}
use native.Mathlib.Omega.{arith}
use lib.ListN.{get_or}
use Rattle.laws.specs.Types.{Order}
use Rattle.rules.specs.Bits.{bit_n}
use Rattle.rules.specs.Positions.{position, row}
use Rattle.rules.specs.Rows.{first_with, last_with}
use Rattle.rules.specs.Calls.{digit}
use Rattle.rules.proofs.Bits.Bit.{bit_lt, bits_below}
use Rattle.rules.proofs.Rows.Row.{Words, row_at, row_is, position_lt, position_twice}
use Rattle.rules.proofs.Searches.Search.{first_is, last_is, first_le, last_le, first_here, first_free, last_here, last_free, last_beyond, first_ext, last_ext}
use Rattle.laws.proofs.Searches.WordSearch.{flipped, flipped_lt, flipped_bit}
use Rattle.laws.proofs.Searches.Alike.{Alike}

-- ---- runs of bits in parts

pub first_at_most : (n : ℕ) (b : ℕ → ℕ) (v : ℕ) {r : ℕ} → r ≡ first_with n b v → r ≤ n
first_at_most n b v e = omega (arith, first_le n b v)

pub last_at_most : (n : ℕ) (b : ℕ → ℕ) (v : ℕ) {r : ℕ} → r ≡ last_with n b v → r ≤ n
last_at_most n b v e = omega (arith, last_le n b v)

-- a part that is all of it
pub first_whole : (t len : ℕ) (b : ℕ → ℕ) (v : ℕ) {r : ℕ} → t ≡ len → r ≡ first_with t b v → r ≡ first_with len b v
first_whole t len b v p e = e ∙ ap (λ (x : ℕ). first_with x b v) p

-- a first part settles it
pub first_sooner : (t len : ℕ) (b : ℕ → ℕ) (v r : ℕ) → t ≤ len → r ≡ first_with t b v → r < t → r ≡ first_with len b v
first_sooner t len b v r l e h =
    first_is len b v r (omega arith) (λ i m. first_free t b v i (omega (arith, e)))
    (λ m. ap b e ∙ first_here t b v (omega (arith, e)))

-- none before a part that settles it
first_parts : (i n len : ℕ) (b : ℕ → ℕ) (v r : ℕ) → i + n ≤ len → ((q : ℕ) → q < i → b q ≢ v) → r ≡ first_with n (λ q. b (i + q)) v
    → (r < n) ⊎ (i + n ≡ len) → i + r ≡ first_with len b v
first_parts i n len b v r fits free e c =
    first_is len b v (i + r) (omega (arith, e, first_le n (λ q. b (i + q)) v)) (λ q l. before q l (dec_lt q i)) (λ l. here l c)
  where
    before : (q : ℕ) → q < i + r → Dec (q < i) → b q ≢ v
    before q l (yes m) = free q m
    before q l (no m) = let p : i + (q - i) ≡ q = omega arith in rw p at (first_free n (λ q. b (i + q)) v (q - i) (omega (arith, e)))

    found : r < n → b (i + r) ≡ v
    found m = ap (λ (x : ℕ). b (i + x)) e ∙ first_here n (λ q. b (i + q)) v (omega (arith, e))

    here : i + r < len → (r < n) ⊎ (i + n ≡ len) → b (i + r) ≡ v
    here l (inl m) = found m
    here l (inr m) = found (omega arith)

-- none after it
last_parts : (i n len : ℕ) (b : ℕ → ℕ) (v r : ℕ) → i + n ≤ len → ((q : ℕ) → i + n ≤ q → q < len → b q ≢ v) → r ≡ last_with n (λ q. b (i + q)) v
    → (0 < r) ⊎ (i ≡ 0) → i + r ≡ last_with len b v
last_parts i n len b v r fits free e c =
    last_is len b v (i + r) (omega (arith, e, last_le n (λ q. b (i + q)) v)) (λ q l m. after q l m (dec_lt q (i + n))) (λ q p. here q p c)
  where
    after : (q : ℕ) → i + r ≤ q → q < len → Dec (q < i + n) → b q ≢ v
    after q l m (yes h) = let p : i + (q - i) ≡ q = omega arith in rw p at (last_free n (λ q. b (i + q)) v (q - i) (omega (arith, e)) (omega arith))
    after q l m (no h) = free q (omega arith) m

    found : (q : ℕ) → suc q ≡ i + r → 0 < r → b q ≡ v
    found q p m =
        let u : i + (r - 1) ≡ q = omega arith in
        let s : suc (r - 1) ≡ r = omega arith in
        rw u at (last_here n (λ q. b (i + q)) v (r - 1) (s ∙ e))

    here : (q : ℕ) → suc q ≡ i + r → (0 < r) ⊎ (i ≡ 0) → b q ≡ v
    here q p (inl m) = found q p m
    here q p (inr m) = found q p (omega arith)

-- ---- a word that is the flip has no bit sought, and another has one

other : (s : Bool) → 1 - digit s ≢ digit s
other true e = omega (arith, e)
other false e = omega (arith, e)

not_sought : (s : Bool) (x : ℕ) → x < 2 → x ≢ digit s → x ≡ 1 - digit s
not_sought true zero h n = refl
not_sought true (suc zero) h n = absurd (n refl)
not_sought true (suc (suc x)) h n = absurd (omega arith)
not_sought false zero h n = absurd (n refl)
not_sought false (suc zero) h n = refl
not_sought false (suc (suc x)) h n = absurd (omega arith)

module _ (W : ℕ) (pos : 0 < W) (o : Order) (ws : List ℕ) (words : Words W ws) (s : Bool) where
  alike_free : (a e q : ℕ) → Alike (flipped W s) ws a e → a * W ≤ q → q < e * W → row W o ws q ≢ digit s
  alike_free a e q all l m p =
      let lo : a ≤ q / W = (le-div_iff_mul-le pos).1 l in
      let hi : q / W < e = (div-lt_iff_lt-mul pos).1 m in
      let i = position W o (q % W) in
      let c : bit_n (get_or ws (q / W) 0) i ≡ 1 - digit s =
      ap (λ (x : ℕ). bit_n x i) (all (q / W) lo hi) ∙ flipped_bit W s i (position_lt W o (q % W) (mod-lt q pos)) in
      other s (sym c ∙ sym (row_is W pos o ws q) ∙ p)

  -- a word none of whose bits is sought
  flat : (k : ℕ) → ((i : ℕ) → i < W → row W o ws (k * W + i) ≢ digit s) → get_or ws k 0 ≡ flipped W s
  flat k none =
      bits_below W (get_or ws k 0) (flipped W s) (words k) (flipped_lt W s)
      (λ p l.
      let q = position_lt W o p l in
      let r : row W o ws (k * W + position W o p) ≡ bit_n (get_or ws k 0) p =
      row_at W o ws k (position W o p) q ∙ ap (bit_n (get_or ws k 0)) (position_twice W o p l) in
      not_sought s (bit_n (get_or ws k 0) p) (bit_lt (get_or ws k 0) p) (λ e. none (position W o p) q (r ∙ e)) ∙ sym (flipped_bit W s p l))

  first_of_word : (k at r : ℕ) → k * W ≡ at → get_or ws k 0 ≢ flipped W s → r ≡ first_with W (λ i. row W o ws (at + i)) (digit s) → r < W
  first_of_word k at r p ne e = go (dec_lt r W)
    where
      go : Dec (r < W) → r < W
      go (yes l) = l
      go (no n) = absurd (ne (flat k (λ i l. rw p (first_free W (λ i. row W o ws (at + i)) (digit s) i (omega (arith, e))))))

  last_of_word : (k at r : ℕ) → k * W ≡ at → get_or ws k 0 ≢ flipped W s → r ≡ last_with W (λ i. row W o ws (at + i)) (digit s) → 0 < r
  last_of_word k at r p ne e = go (dec_lt 0 r)
    where
      go : Dec (0 < r) → 0 < r
      go (yes l) = l
      go (no n) = absurd (ne (flat k (λ i l. rw p (last_free W (λ i. row W o ws (at + i)) (digit s) i (omega (arith, e)) l))))

  -- the same bits from another place on
  moved : (at u i : ℕ) → u ≡ at + i → (q : ℕ) → row W o ws (u + q) ≡ row W o ws (at + (i + q))
  moved at u i e q = ap (row W o ws) (omega arith)

  -- up from word a: words that have none up to word j, and n bits from there on, which have one unless they are the last
  pub first_frame : (a e j i n len f : ℕ) {r : ℕ} → f ≡ flipped W s → Alike f ws a j → (j < e → get_or ws j 0 ≢ f)
      → j * W ≡ a * W + i → i + n ≤ len → (j < e → n ≡ W) → (e ≤ j → i + n ≡ len)
      → r ≡ first_with n (λ q. row W o ws (j * W + 0 + q)) (digit s)
      → i + r ≡ first_with len (λ q. row W o ws (a * W + q)) (digit s)
  first_frame a e j i n len f {r} ef all ne to fits whole last is =
      first_parts i n len (λ q. row W o ws (a * W + q)) (digit s) r fits
      (λ q l. alike_free a j (a * W + q) (λ k u v. all k u v ∙ ef) (omega arith) (omega arith))
      (is ∙ first_ext n (λ q. row W o ws (j * W + 0 + q)) (λ q. row W o ws (a * W + (i + q))) (digit s) (λ q l. moved (a * W) (j * W + 0) i (omega arith) q))
      (settle (dec_lt j e))
    where
      settle : Dec (j < e) → (r < n) ⊎ (i + n ≡ len)
      settle (no m) = inr (last (omega arith))
      settle (yes m) =
          let w = whole m in
          inl (subst (λ (x : ℕ). r < x) (sym w) (first_of_word j (j * W + 0) r (omega arith) (λ q. ne m (q ∙ sym ef))
          (is ∙ ap (λ (x : ℕ). first_with x (λ q. row W o ws (j * W + 0 + q)) (digit s)) w)))

  -- down from word e, before which `at` has m bits: words that have none down to word j, and the n bits before it, which have one unless they are
  -- the first
  pub last_frame : (at a e j i n m : ℕ) (f : ℕ) {r : ℕ} → f ≡ flipped W s → Alike f ws j e → (a < j → get_or ws (j - 1) 0 ≢ f)
      → e * W ≡ at + m → j * W ≡ at + i → i ≤ m → i - n + n ≡ i → (j - 1) * W + (W - n) ≡ at + (i - n) → (a < j → n ≡ W) → (j ≤ a → i - n ≡ 0)
      → r ≡ last_with n (λ q. row W o ws ((j - 1) * W + (W - n) + q)) (digit s)
      → i - n + r ≡ last_with m (λ q. row W o ws (at + q)) (digit s)
  last_frame at a e j i n m f {r} ef all ne from to im pn eu whole first is =
      last_parts p n m (λ q. row W o ws (at + q)) (digit s) r (omega arith)
      (λ q l h. alike_free j e (at + q) (λ k u v. all k u v ∙ ef) (omega arith) (omega arith))
      (is ∙ last_ext n (λ q. row W o ws (u + q)) (λ q. row W o ws (at + (p + q))) (digit s) (λ q l. moved at u p eu q))
      (settle (dec_lt a j))
    where
      p : ℕ
      p = i - n

      u : ℕ
      u = (j - 1) * W + (W - n)

      settle : Dec (a < j) → (0 < r) ⊎ (p ≡ 0)
      settle (no b) = inr (first (omega arith))
      settle (yes b) =
          let w = whole b in
          inl (last_of_word (j - 1) u r (omega arith) (λ q. ne b (q ∙ sym ef))
          (is ∙ ap (λ (x : ℕ). last_with x (λ q. row W o ws (u + q)) (digit s)) w))

-- ---- a row in two parts, of which the one that is looked at first has none, or settles it

module _ (W : ℕ) (o : Order) (ws : List ℕ) (s : Bool) (at len : ℕ) where
  abbrev bit : ℕ → ℕ
  bit q = row W o ws (at + q)

  pub first_further : (t n u : ℕ) {r r' : ℕ} {s' : Bool} → r ≡ first_with t (λ q. row W o ws (at + q)) (digit s) → t ≤ r → t + n ≡ len → u ≡ at + t
      → s ≡ s' → r' ≡ first_with n (λ q. row W o ws (u + q)) (digit s') → t + r' ≡ first_with len (λ q. row W o ws (at + q)) (digit s)
  first_further t n u {r} {r'} e l tn eu es e' =
      first_parts t n len bit (digit s) r' (omega arith) (λ q m. first_free t bit (digit s) q (omega (arith, e)))
      (e' ∙ ap (λ (x : Bool). first_with n (λ q. row W o ws (u + q)) (digit x)) (sym es)
      ∙ first_ext n (λ q. row W o ws (u + q)) (λ q. bit (t + q)) (digit s) (λ q l. ap (row W o ws) (omega arith))) (inr tn)

  module _ (m t u : ℕ) (mt : m + t ≡ len) (eu : u ≡ at + m) {r : ℕ} (e : r ≡ last_with t (λ q. row W o ws (u + q)) (digit s)) where
    moved_last : r ≡ last_with t (λ q. bit (m + q)) (digit s)
    moved_last = e ∙ last_ext t (λ q. row W o ws (u + q)) (λ q. bit (m + q)) (digit s) (λ q l. ap (row W o ws) (omega arith))

    pub last_sooner : 0 < r → m + r ≡ last_with len (λ q. row W o ws (at + q)) (digit s)
    last_sooner h = last_parts m t len bit (digit s) r (omega arith) (λ q l h. absurd (omega arith)) moved_last (inl h)

    pub last_further : r ≤ 0 → {r' : ℕ} {s' : Bool} → s ≡ s' → r' ≡ last_with m (λ q. row W o ws (at + q)) (digit s')
        → r' ≡ last_with len (λ q. row W o ws (at + q)) (digit s)
    last_further z {r'} es e' =
        let none : last_with t (λ q. bit (m + q)) (digit s) ≡ 0 = omega (arith, moved_last) in
        e' ∙ ap (λ (x : Bool). last_with m bit (digit x)) (sym es) ∙ last_beyond m t bit (digit s) none ∙ ap (λ (x : ℕ). last_with x bit (digit s)) mt
