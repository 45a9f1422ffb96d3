-- The single-bit calls: what an accepted one means, and its answer and memory from what code reads and writes. Assumes nothing.
use Prim.Native.Nat.{ℕ, ◌+◌, ◌*◌, ◌/◌, ◌%◌, ◌<◌}
use mathlib.Core.Path.{◌≡◌, refl, sym, ◌∙◌, ap}
use mathlib.Core.Bool.{Bool, true, false}
use mathlib.Core.List.{List}
use native.Mathlib.Nat.{add-mul, div-add-mod'}
use native.Mathlib.Omega.{arith}
use lib.ListN.{length}
use Rattle.laws.specs.Types.{Span, Refusal, Ok, Err, Order, Le}
use Rattle.rules.specs.Bits.{bit_n}
use Rattle.rules.specs.Positions.{start, spliced}
use Rattle.rules.specs.Refusals.{number, verdict, bit_cases}
use Rattle.rules.specs.Calls.{refused, digit, read_bit, write_bit, cases, answer!, after!, answer}
use Rattle.rules.specs.Answers.{write_says, Gives}
use lib.Arith.{lt-one}
use Rattle.rules.specs.Fields.{exponent, store_of}
use Rattle.rules.proofs.Bits.Bit.{bit_zero}
use Rattle.rules.proofs.Rows.Splice.{splice_eq}
use Rattle.rules.proofs.Fields.Field.{exponent_renumbers}
use Rattle.rules.proofs.Refusals.Accepted.{fine_bit}
use Rattle.rules.proofs.Sentences.Sentences.{refused_call, accepted_call}

-- a field of one bit
pub store_bit : (W : ℕ) → 0 < W → (o : Order) (ws : List ℕ) (j v : ℕ) → store_of W o Le ws j 1 v ≡ spliced W o ws j 1 (λ _. v % 2)
unfolding store_of
store_bit W pos o ws j v =
    splice_eq W pos o ws j 1 (λ i. bit_n v (exponent W o Le j 1 i)) (λ _. v % 2)
    (λ i l. ap (bit_n v) (lt-one ((exponent_renumbers W pos j 1 o Le).below i l)) ∙ bit_zero v)

module _ (W : ℕ) (ws : List ℕ) (s : Span) (i : ℕ) where
  pub read_refused : (r : Refusal) → verdict (bit_cases W (length ws) s i) ≡ Err r → refused (number r) ≡ answer W (read_bit s i) ws
  unfolding cases
  read_refused r e = sym (refused_call W (read_bit s i) ws r e).0

  pub write_refused : (v : Bool) (r : Refusal) {m : List ℕ} → verdict (bit_cases W (length ws) s i) ≡ Err r → m ≡ ws
      → Gives W (write_bit s i v) ws (write_says (Err r)) m
  unfolding cases
  write_refused v r e em =
      let c = refused_call W (write_bit s i v) ws r e in
      record { answers = sym c.0; holds = em ∙ sym c.1 }

  pub write_done : (v : Bool) {m : List ℕ} → verdict (bit_cases W (length ws) s i) ≡ Ok tt → m ≡ spliced W s.order ws (start W s + i) 1 (λ _. digit v)
      → Gives W (write_bit s i v) ws (write_says (Ok tt)) m
  unfolding cases answer! after!
  write_done v e em =
      let c = accepted_call W (write_bit s i v) ws e in
      record { answers = sym c.0; holds = em ∙ sym c.1 }

-- ---- the bit as a piece of its word

module _ (W : ℕ) (ws : List ℕ) (s : Span) (i : ℕ) (e : verdict (bit_cases W (length ws) s i) ≡ Ok tt) where
  pub write_piece : (v : Bool) {m : List ℕ} → m ≡ store_of W s.order Le ws ((s.word + (s.head.0 + i) / W) * W + (s.head.0 + i) % W) 1 (digit v)
      → m ≡ spliced W s.order ws (start W s + i) 1 (λ _. digit v)
  unfolding start
  write_piece v q =
      let b = fine_bit W (length ws) s i e in
      let t = s.head.0 + i in
      q ∙ store_bit W b.wide s.order ws ((s.word + t / W) * W + t % W) (digit v)
      ∙ ap (λ (x : ℕ). spliced W s.order ws x 1 (λ _. digit v % 2)) (omega (arith, add-mul s.word (t / W) W, div-add-mod' t W))
      ∙ splice_eq W b.wide s.order ws (s.word * W + s.head.0 + i) 1 (λ _. digit v % 2) (λ _. digit v) (λ i l. small v)
    where
      small : (v : Bool) → digit v % 2 ≡ digit v
      small true = refl
      small false = refl
