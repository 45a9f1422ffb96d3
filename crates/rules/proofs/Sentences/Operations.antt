-- An operation is its truth table's number: 8, 14 and 6 are the `and`, `or` and `xor` of words, bit by bit. Assumes nothing.
use mathlib.Core.Path.{◌≡◌, ◌∙◌}
use mathlib.Core.Logic.{◌⊎◌, inl, inr}
use Prim.Native.Nat.{ℕ, min, max}
use lib.Bits.{bit_and, bit_or, bit_xor, differ}
use Rattle.rules.specs.Bits.{bit_n}
use Rattle.rules.specs.Rows.{applied}
use Rattle.rules.proofs.Bits.Bit.{bit_lt, bit_and_lem, bit_or_lem, bit_xor_lem, bit_cases_lem}

applied_and : (a b : ℕ) → (a ≡ 0) ⊎ (a ≡ 1) → (b ≡ 0) ⊎ (b ≡ 1) → min a b ≡ applied 8 a b
unfolding applied bit_n
applied_and a b (inl e) (inl f) = rw (e, f)
applied_and a b (inl e) (inr f) = rw (e, f)
applied_and a b (inr e) (inl f) = rw (e, f)
applied_and a b (inr e) (inr f) = rw (e, f)

applied_or : (a b : ℕ) → (a ≡ 0) ⊎ (a ≡ 1) → (b ≡ 0) ⊎ (b ≡ 1) → max a b ≡ applied 14 a b
unfolding applied bit_n
applied_or a b (inl e) (inl f) = rw (e, f)
applied_or a b (inl e) (inr f) = rw (e, f)
applied_or a b (inr e) (inl f) = rw (e, f)
applied_or a b (inr e) (inr f) = rw (e, f)

applied_xor : (a b : ℕ) → (a ≡ 0) ⊎ (a ≡ 1) → (b ≡ 0) ⊎ (b ≡ 1) → differ a b ≡ applied 6 a b
unfolding applied bit_n
applied_xor a b (inl e) (inl f) = rw (e, f)
applied_xor a b (inl e) (inr f) = rw (e, f)
applied_xor a b (inr e) (inl f) = rw (e, f)
applied_xor a b (inr e) (inr f) = rw (e, f)

two : (n k : ℕ) → (bit_n n k ≡ 0) ⊎ (bit_n n k ≡ 1)
two n k = bit_cases_lem (bit_n n k) (bit_lt n k)

pub and_applied : (x y k : ℕ) → bit_n (bit_and x y) k ≡ applied 8 (bit_n x k) (bit_n y k)
and_applied x y k = bit_and_lem x y k ∙ applied_and (bit_n x k) (bit_n y k) (two x k) (two y k)

pub or_applied : (x y k : ℕ) → bit_n (bit_or x y) k ≡ applied 14 (bit_n x k) (bit_n y k)
or_applied x y k = bit_or_lem x y k ∙ applied_or (bit_n x k) (bit_n y k) (two x k) (two y k)

pub xor_applied : (x y k : ℕ) → bit_n (bit_xor x y) k ≡ applied 6 (bit_n x k) (bit_n y k)
xor_applied x y k = bit_xor_lem x y k ∙ applied_xor (bit_n x k) (bit_n y k) (two x k) (two y k)
