-- Lent words of 8 and of 64 bits: the numbers that they are to the library are the numbers themselves. Assumes nothing.
use mathlib.Core.Path.{◌≡◌}
use mathlib.Core.List.{List}
use Prim.Native.Nat.{ℕ, ◌%◌, ◌^◌}
use lib.ListN.{get_or}
use mir.Val.{Fits}
use mir.Syntax.{w8, w64}
use Rattle.std.specs.Prelude.{map}
use Rattle.laws.proofs.Words.Typed.{as_they_are}

pub lent_8 : (ws : List ℕ) → ((i : ℕ) → Fits w8 (get_or ws i 0)) → map (λ (x : ℕ). x % 2 ^ 8) ws ≡ ws
lent_8 ws h = as_they_are 8 ws (λ k. (h k).fits)

pub lent_64 : (ws : List ℕ) → ((i : ℕ) → Fits w64 (get_or ws i 0)) → map (λ (x : ℕ). x % 2 ^ 64) ws ≡ ws
lent_64 ws h = as_they_are 64 ws (λ k. (h k).fits)
