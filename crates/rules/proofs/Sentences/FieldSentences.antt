-- What document 01 says of fields, as theorems on the promised functions `answer` and `after`: a stored field loads back, a strictly stored one
-- exactly; storing a loaded field changes nothing; a store changes no bit outside its span; bit i weighs what it says. Assumes nothing.
use mathlib.Core.Path.{◌≡◌, refl, sym, ap, ◌∙◌}
use mathlib.Core.Bool.{true, false, not}
use mathlib.Core.List.{List, [], ◌∷◌}
use Prim.Native.Nat.{ℕ, ◌+◌, ◌-◌, ◌*◌, ◌%◌, ◌^◌, ◌≤◌, ◌<◌}
use native.Mathlib.Nat.{mod-eq_of_lt, lt_of_lt_of_le}
use native.Mathlib.Omega.{arith}
use lib.ListN.{length, get_or}
use lib.IntN.{ℤ, pos, negsuc}
use lib.Pow.{pow_mono}
use lib.Signed.{mag}
use borrow.Author.Tests.{lt-ltb}
use Rattle.rules.specs.Types.{Lsb0, Msb0, Span, Significance, Le, Be, Sign, Unsigned, Signed, NotAnInteger, Verdict, Ok, Err}
use Rattle.rules.specs.Bits.{bit_n}
use Rattle.rules.specs.Positions.{start, span_bit}
use Rattle.rules.specs.Fields.{exponent, load_of, read_as, signed_of, bits_of, store_of, is_integer}
use Rattle.rules.specs.Refusals.{verdict, ◌when◌, span_cases, field_cases, value_cases, fitting_cases, load_cases, store_cases, store_strict_cases}
use Rattle.rules.specs.Calls.{Answer, done, a_number, said, Call, load, store, store_strict, span_covers, cases, answer!, after!, answer, after, writes! }
use Rattle.rules.proofs.Rows.Row.{Words}
use Rattle.rules.proofs.Fields.Field.{load_lt, load_bit, store_load, store_low}
use Rattle.rules.proofs.Fields.Signed.{signed_range, signed_low}
use Rattle.rules.proofs.Refusals.Tables.{Inside, fine_parts, goes, last_clear}
use Rattle.rules.proofs.Refusals.Accepted.{fine_load, fine_store, fine_strict}
use Rattle.rules.proofs.Sentences.Sentences.{fine_of_done, accepted_call, stored_loaded, strictly_stored}
use Rattle.rules.proofs.Isolation.Footprints.{beside, length_after}

-- ---- an answer that is no refusal tells that the request was accepted

number_fine : (v : Verdict) (a : Answer) (z : ℤ) → said v a ≡ a_number z → v ≡ Ok tt
number_fine (Ok _) a z e = refl
number_fine (Err r) a z e = let z : ◌≡◌ {A = ℕ} 0 1 = cc in absurd (omega arith)

one_integer : (y z : ℤ) → a_number y ≡ a_number z → y ≡ z
one_integer y z e = cc

fine_of_number : (W : ℕ) (c : Call) (ws : List ℕ) (z : ℤ) → answer W c ws ≡ a_number z → verdict (cases W (length ws) c) ≡ Ok tt
unfolding answer
fine_of_number W c ws z e = number_fine (verdict (cases W (length ws) c)) (answer! W c ws) z e

-- ---- what is loaded is a K-bit integer of its sign, with the loaded bits

integer_mag : (K : ℕ) (z : ℤ) → mag z < 2 ^ (K - 1) → is_integer K Signed z ≡ true
unfolding is_integer
integer_mag K (pos m) h = lt-ltb m (2 ^ (K - 1)) h
integer_mag K (negsuc m) h = lt-ltb m (2 ^ (K - 1)) h

read_integer : (K n : ℕ) (g : Sign) (u : ℕ) → 0 < n → n ≤ K → u < 2 ^ n → is_integer K g (read_as g n u) ≡ true
unfolding is_integer read_as
read_integer K n Unsigned u p l h = lt-ltb u (2 ^ K) (lt_of_lt_of_le h (pow_mono l))
read_integer K n Signed u p l h = integer_mag K (signed_of n u) (lt_of_lt_of_le (signed_range n u p h) (pow_mono {i = n - 1} {j = K - 1} (omega arith)))

read_low : (K n : ℕ) (g : Sign) (u : ℕ) → n ≤ K → u < 2 ^ n → bits_of K (read_as g n u) % 2 ^ n ≡ u
unfolding read_as bits_of
read_low K n Unsigned u l h = mod-eq_of_lt h
read_low K n Signed u l h = signed_low K n u l h

-- ---- the theorems

module _ (W : ℕ) (wide : 0 < W) (ws : List ℕ) (s : Span) (K : ℕ) (e : Significance) where
  -- a store and a strict store that are accepted leave a field that can be loaded
  load_of_store : (g : Sign) (v : ℤ) (n : ℕ) → verdict (store_cases W n s K g v) ≡ Ok tt → verdict (load_cases W n s K) ≡ Ok tt
  unfolding store_cases value_cases load_cases
  load_of_store g v n h =
      let f = fine_parts (span_cases W n s) (value_cases K s.len g v) h in
      let k = fine_parts (field_cases K s.len) (NotAnInteger when not (is_integer K g v) ∷ []) f.1 in
      goes (span_cases W n s) (field_cases K s.len) f.0 ∙ k.0

  store_of_strict : (g : Sign) (v : ℤ) (n : ℕ) → verdict (store_strict_cases W n s K g v) ≡ Ok tt → verdict (store_cases W n s K g v) ≡ Ok tt
  unfolding store_strict_cases fitting_cases store_cases
  store_of_strict g v n h =
      let f = fine_parts (span_cases W n s) (fitting_cases K s.len g v) h in
      let k = fine_parts (value_cases K s.len g v) _ f.1 in
      goes (span_cases W n s) (value_cases K s.len g v) f.0 ∙ k.0

  bounds : (n : ℕ) → Inside W n s → start W s + s.len ≤ n * W
  unfolding start
  bounds n i = i.ends

  loaded : (c : Call) (f : Sign) (vs : List ℕ) → verdict (load_cases W (length ws) s K) ≡ Ok tt → after W c ws ≡ vs
      → answer W (load s K e f) (after W c ws) ≡ a_number (read_as f s.len (load_of W s.order e vs (start W s) s.len))
  unfolding cases answer!
  loaded c f vs h q =
      let same : verdict (load_cases W (length (after W c ws)) s K) ≡ Ok tt = ap (λ (n : ℕ). verdict (load_cases W n s K)) (length_after W wide c ws) ∙ h in
      (accepted_call W (load s K e f) (after W c ws) same).0 ∙ ap (λ (xs : List ℕ). a_number (read_as f s.len (load_of W s.order e xs (start W s) s.len))) q

  -- A stored field loads back as the low bits of the value: unsigned as they are, signed with the sign extended.
  pub stored_back : (g f : Sign) (v : ℤ) → answer W (store s K e g v) ws ≡ done
      → answer W (load s K e f) (after W (store s K e g v) ws) ≡ a_number (read_as f s.len (bits_of K v % 2 ^ s.len))
  unfolding cases after!
  stored_back g f v h =
      let fine : verdict (store_cases W (length ws) s K g v) ≡ Ok tt = fine_of_done W (store s K e g v) ws h in
      let i = fine_store W (length ws) s K g v fine in
      loaded (store s K e g v) f (store_of W s.order e ws (start W s) s.len (bits_of K v)) (load_of_store g v (length ws) fine) (accepted_call W (store s K e g v) ws fine).1
      ∙ ap a_number (stored_loaded W wide s.order e f K v ws (start W s) s.len (bounds (length ws) i.lies))

  -- A strict store that is accepted loads back exactly.
  pub strictly_back : (g : Sign) (v : ℤ) → answer W (store_strict s K e g v) ws ≡ done → answer W (load s K e g) (after W (store_strict s K e g v) ws) ≡ a_number v
  unfolding cases after!
  strictly_back g v h =
      let fine : verdict (store_strict_cases W (length ws) s K g v) ≡ Ok tt = fine_of_done W (store_strict s K e g v) ws h in
      let i = fine_strict W (length ws) s K g v fine in
      let z = i.fitted.valued.sized in
      loaded (store_strict s K e g v) g (store_of W s.order e ws (start W s) s.len (bits_of K v)) (load_of_store g v (length ws) (store_of_strict g v (length ws) fine)) (accepted_call W (store_strict s K e g v) ws fine).1
      ∙ ap a_number (strictly_stored W wide s.order e g K v ws (start W s) s.len (bounds (length ws) i.lies) z.some z.fitting i.fitted.small)

  -- Storing a loaded field is accepted and changes nothing.
  pub loaded_back : (g : Sign) (v : ℤ) → Words W ws → answer W (load s K e g) ws ≡ a_number v
      → (answer W (store s K e g v) ws ≡ done) × (after W (store s K e g v) ws ≡ ws)
  unfolding cases answer! after! load_cases store_cases value_cases
  loaded_back g v words h =
      let u = load_of W s.order e ws (start W s) s.len in
      let fine : verdict (load_cases W (length ws) s K) ≡ Ok tt = fine_of_number W (load s K e g) ws v h in
      let z = (fine_load W (length ws) s K fine).sized in
      let small : u < 2 ^ s.len = load_lt W wide s.order e ws (start W s) s.len in
      let is : v ≡ read_as g s.len u = one_integer v (read_as g s.len u) (sym h ∙ (accepted_call W (load s K e g) ws fine).0) in
      let f = fine_parts (span_cases W (length ws) s) (field_cases K s.len) fine in
      let whole : is_integer K g v ≡ true = ap (is_integer K g) is ∙ read_integer K s.len g u z.some z.fitting small in
      let taken : verdict (store_cases W (length ws) s K g v) ≡ Ok tt =
      goes (span_cases W (length ws) s) (value_cases K s.len g v) f.0 ∙ last_clear (field_cases K s.len) NotAnInteger (not (is_integer K g v)) f.1 (ap not whole) in
      let c = accepted_call W (store s K e g v) ws taken in
      let low : bits_of K v % 2 ^ s.len ≡ u = ap (λ (x : ℤ). bits_of K x % 2 ^ s.len) is ∙ read_low K s.len g u z.fitting small in (
        c.0,
        c.1 ∙ sym (store_low W wide s.order e ws (start W s) s.len (bits_of K v)) ∙ ap (store_of W s.order e ws (start W s) s.len) low
            ∙ store_load W wide s.order e ws (start W s) s.len words,
      )

  -- A store changes no bit outside its span, also in the words that it shares: the real position p of word k.
  pub store_beside : (g : Sign) (v : ℤ) (k p : ℕ) → p < W → span_covers W s (k * W + p) ≡ false
      → (bit_n (get_or (after W (store s K e g v) ws) k 0) p ≡ bit_n (get_or ws k 0) p) × (bit_n (get_or (after W (store_strict s K e g v) ws) k 0) p ≡ bit_n (get_or ws k 0) p)
  unfolding writes!
  store_beside g v k p h out = (beside W wide (store s K e g v) ws k p h out, beside W wide (store_strict s K e g v) ws k p h out)

  -- Bit i weighs 2 to its exponent: the number loaded has it there.
  pub weighs : (u i : ℕ) → answer W (load s K e Unsigned) ws ≡ a_number (pos u) → i < s.len → bit_n u (exponent W s.order e (start W s) s.len i) ≡ span_bit W ws s i
  unfolding cases answer! read_as span_bit
  weighs u i h l =
      let fine : verdict (load_cases W (length ws) s K) ≡ Ok tt = fine_of_number W (load s K e Unsigned) ws (pos u) h in
      let is : pos u ≡ pos (load_of W s.order e ws (start W s) s.len) = one_integer _ _ (sym h ∙ (accepted_call W (load s K e Unsigned) ws fine).0) in
      let same : u ≡ load_of W s.order e ws (start W s) s.len = cc in
      ap (λ (x : ℕ). bit_n x (exponent W s.order e (start W s) s.len i)) same ∙ load_bit W wide s.order e ws (start W s) s.len i l

-- So bit i weighs 2 ^ i for Lsb0 le, and 2 ^ (length - 1 - i) for Msb0 be.
pub weighs_lsb0_le : (W at n i : ℕ) → exponent W Lsb0 Le at n i ≡ i
unfolding exponent
weighs_lsb0_le W at n i = refl

pub weighs_msb0_be : (W at n i : ℕ) → exponent W Msb0 Be at n i ≡ n - 1 - i
unfolding exponent
weighs_msb0_be W at n i = refl
