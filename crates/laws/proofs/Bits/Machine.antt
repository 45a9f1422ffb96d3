-- The machine's signed integers of 64 bits: z below 0 is -1 - n with n its flipped bits; any other is n with n its bits. Assumes nothing.
use Prim.Native.Nat.{ℕ, suc, ◌-◌, ◌^◌, ◌≤◌, ◌<◌}
use mathlib.Core.Path.{◌≡◌, refl, ap, ◌∙◌, subst}
use mathlib.Core.Bool.{true, false}
use native.Mathlib.Omega.{arith}
use lib.IntN.{ℤ, pos, negsuc}
use lib.Signed.{lt_z}
use mir.Syntax.{w64}
use mir.Val.{SFits, to_z, of_z}
use mir.ValLaws.{to_z-of_z}
use borrow.Author.Tests.{ltb-true, lt-ltb, le-ltb}
use Rattle.rules.specs.Fields.{is_integer}
use Rattle.rules.specs.Refusals.{verdict, machine_cases}
use Rattle.rules.specs.Calls.{refused, a_number, machine_answer}

pub record Below (z : ℤ) : Type 0 where
  pub n : ℕ
  pub is : negsuc n ≡ z
  pub flipped : to_z w64 (2 ^ 64 - 1 - of_z w64 z) ≡ pos n
  pub small : n < 2 ^ 63

pub record Above (z : ℤ) : Type 0 where
  pub n : ℕ
  pub is : pos n ≡ z
  pub same : to_z w64 (of_z w64 z) ≡ pos n
  pub small : n < 2 ^ 63

pub below : (z : ℤ) → SFits w64 z → lt_z (to_z w64 (of_z w64 z)) (pos 0) ≡ true → Below z
below (pos n) f e =
    let h : lt_z (pos n) (pos 0) ≡ true = subst (λ (x : ℤ). lt_z x (pos 0) ≡ true) (to_z-of_z w64 (pos n) f) e in
    absurd (omega (arith, ltb-true n 0 h))
below (negsuc n) f e =
    let b : n < 2 ^ 63 = f.sfits in
    let g : 2 ^ 64 - 1 - (2 ^ 64 - suc n) ≡ n = omega arith in
    record { n = n; is = refl; flipped = ap (to_z w64) g ∙ to_z-of_z w64 (pos n) (record { sfits = b }); small = b }

pub above : (z : ℤ) → SFits w64 z → lt_z (to_z w64 (of_z w64 z)) (pos 0) ≡ false → Above z
above (pos n) f e = record { n = n; is = refl; same = to_z-of_z w64 (pos n) f; small = f.sfits }
above (negsuc n) f e =
    let h : true ≡ false = subst (λ (x : ℤ). lt_z x (pos 0) ≡ false) (to_z-of_z w64 (negsuc n) f) e in
    let z : ◌≡◌ {A = ℕ} 0 1 = cc in
    absurd (omega arith)

-- a number of 63 bits as the machine's integer
pub up_fits : (n : ℕ) → n < 2 ^ 63 → SFits w64 (pos n)
up_fits n h = record { sfits = h }

pub up_bits : (n : ℕ) → n < 2 ^ 63 → to_z w64 n ≡ pos n
up_bits n h = to_z-of_z w64 (pos n) (up_fits n h)

pub down_bits : (n : ℕ) → n < 2 ^ 63 → to_z w64 (2 ^ 64 - 1 - n) ≡ negsuc n
down_bits n h = let g : 2 ^ 64 - 1 - n ≡ 2 ^ 64 - suc n = omega arith in ap (to_z w64) g ∙ to_z-of_z w64 (negsuc n) (record { sfits = h })

-- the answer, from the test that code makes
module _ (n : ℕ) where
  pub up_given : {z : ℤ} → n < 2 ^ 63 → z ≡ pos n → a_number z ≡ machine_answer (pos n)
  unfolding machine_answer machine_cases verdict is_integer
  up_given h e = rw (lt-ltb n (2 ^ 63) h) (ap a_number e)

  pub down_given : {z : ℤ} → n < 2 ^ 63 → z ≡ negsuc n → a_number z ≡ machine_answer (negsuc n)
  unfolding machine_answer machine_cases verdict is_integer
  down_given h e = rw (lt-ltb n (2 ^ 63) h) (ap a_number e)

  pub up_refused : 2 ^ 63 ≤ n → refused 8 ≡ machine_answer (pos n)
  unfolding machine_answer machine_cases verdict is_integer
  up_refused h = rw (le-ltb n (2 ^ 63) h)

  pub down_refused : 2 ^ 63 ≤ n → refused 8 ≡ machine_answer (negsuc n)
  unfolding machine_answer machine_cases verdict is_integer
  down_refused h = rw (le-ltb n (2 ^ 63) h)
