-- Codes that are not 0, and numbers that leave in two's complement. Assumes nothing.
use Prim.Native.Nat.{ℕ, zero, suc, ◌-◌, ◌^◌, ◌≤◌, ◌<◌}
use mathlib.Core.Path.{◌≡◌, refl, sym}
use mathlib.Core.Bool.{Bool, true, false, not, ◌||◌, true≢false}
use borrow.Author.Tests.{ne_eqb, lt-ltb, le-ltb}
use Rattle.rules.specs.declared.Order.TheVariants.{Msb0}
use Rattle.rules.specs.declared.Significance.TheVariants.{Be}
use Rattle.rules.specs.declared.Sign.TheVariants.{Signed}
use Rattle.rules.specs.declared.Number.{Number}
use Rattle.rules.specs.declared.Number.TheVariants.{Up, Down}
use Rattle.rules.specs.declared.Refusal.{Refusal}
use Rattle.std.specs.Prelude.{Result, Ok}
use Rattle.rules.specs.Fields.{bits_of}
use Rattle.rules.specs.Answers.{number_says}
use Rattle.border.specs.Border.{order_of, significance_of, sign_of, number_of, bit_of, no_width, none, Told}

module _ (code : ℕ) (some : code ≡ 0 → ⊥) where
  pub second_order : Msb0 ≡ order_of code
  second_order = go code some
    where
      go : (c : ℕ) → (c ≡ 0 → ⊥) → Msb0 ≡ order_of c
      go zero h = absurd (h refl)
      go (suc c) h = refl

  pub second_significance : Be ≡ significance_of code
  second_significance = go code some
    where
      go : (c : ℕ) → (c ≡ 0 → ⊥) → Be ≡ significance_of c
      go zero h = absurd (h refl)
      go (suc c) h = refl

  pub second_sign : Signed ≡ sign_of code
  second_sign = go code some
    where
      go : (c : ℕ) → (c ≡ 0 → ⊥) → Signed ≡ sign_of c
      go zero h = absurd (h refl)
      go (suc c) h = refl

  pub below_zero : (value : ℕ) → Down value ≡ number_of code value
  below_zero value = go code some
    where
      go : (c : ℕ) → (c ≡ 0 → ⊥) → Down value ≡ number_of c value
      go zero h = absurd (h refl)
      go (suc c) h = refl

  pub one_bit : true ≡ bit_of code
  one_bit = go code some
    where
      go : (c : ℕ) → (c ≡ 0 → ⊥) → true ≡ bit_of c
      go zero h = absurd (h refl)
      go (suc c) h = refl

-- what leaves of a number
pub leaves_up : {a : Result Number Refusal} {v : Number} {n old : ℕ} → a ≡ Ok v → v ≡ Up n → Told (number_says a) old 0 n
unfolding bits_of
leaves_up e d = rw (e, d) (record { number = refl; value = refl })

pub leaves_down : {a : Result Number Refusal} {v : Number} {n old : ℕ} → a ≡ Ok v → v ≡ Down n → Told (number_says a) old 0 (2 ^ 64 - 1 - n)
unfolding bits_of
leaves_down e d = rw (e, d) (record { number = refl; value = refl })

-- a width that is none
pub no_width_lem : (w : ℕ) (b : Bool) → (w ≡ 8 → ⊥) → (w ≡ 64 → ⊥) → (no_width w || b) ≡ true
no_width_lem w b h l = rw (ne_eqb w 8 h, ne_eqb w 64 l)

-- of several codes one is none, or none is
pub first_none : (x : ℕ) (b : Bool) → 1 < x → (none x || b) ≡ true
first_none x b h = rw (lt-ltb 1 x h)

pub later_none : (x : ℕ) (b : Bool) → x ≤ 1 → b ≡ true → (none x || b) ≡ true
later_none x b h e = rw (le-ltb 1 x h) e

pub all_named : (x : ℕ) (b : Bool) → x ≤ 1 → b ≡ false → (none x || b) ≡ false
all_named x b h e = rw (le-ltb 1 x h) e

-- the test of an operation
pub no_operation_lem : {b : Bool} → not b ≡ false → b ≡ true
no_operation_lem {b = true} e = refl
no_operation_lem {b = false} e = absurd (true≢false e)

pub an_operation : {b : Bool} → not b ≡ true → b ≡ false
an_operation {b = true} e = absurd (true≢false (sym e))
an_operation {b = false} e = refl

pub not_not : (b : Bool) → b ≡ not (not b)
not_not true = refl
not_not false = refl
