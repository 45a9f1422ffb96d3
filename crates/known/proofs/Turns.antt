-- One field more: what a turn of each loop adds, at any width. Assumes nothing.
use Prim.Native.Nat.{ℕ, ◌+◌, ◌≤◌}
use mathlib.Core.Path.{◌≡◌, sym, ap, ap₂, ◌∙◌}
use mathlib.Core.List.{List}
use native.Mathlib.Numerals.{add-one}
use native.Mathlib.Omega.{arith}
use borrow.Author.Tests.{le-ltb}
use lib.IntN.{pos}
use lib.ListN.{length, get_or}
use Rattle.rules.specs.declared.Span.{Span}
use Rattle.rules.specs.declared.Significance.TheVariants.{Le}
use Rattle.rules.specs.declared.Sign.TheVariants.{Unsigned}
use Rattle.rules.specs.Calls.{Answer, load, store, answer, after}
use Rattle.known.specs.Known.{field_at, unsigned_of, mix_in, mix_after, stored_after, mixed, stored}

module _ (W k : ℕ) (ws ps hs : List ℕ) where
  pub load_more : (i : ℕ) {m n r : ℕ} {s : Span} {x : Answer} → m ≡ mix_after W k ws ps hs i → s ≡ field_at (get_or ps i 0) (get_or hs i 0) k
      → x ≡ answer W (load s k Le Unsigned) ws → n ≡ unsigned_of x → r ≡ mix_in m n → r ≡ mix_after W k ws ps hs (i + 1)
  unfolding mix_after
  load_more i em es ex en er =
      er ∙ ap₂ mix_in em (en ∙ ap unsigned_of (ex ∙ ap (λ (s : Span). answer W (load s k Le Unsigned) ws) es)) ∙ ap (mix_after W k ws ps hs) (sym (add-one i))

  pub store_more : (v i : ℕ) {xs ys : List ℕ} {s : Span} → xs ≡ stored_after W k v ws ps hs i → s ≡ field_at (get_or ps i 0) (get_or hs i 0) k
      → ys ≡ after W (store s k Le Unsigned (pos v)) xs → ys ≡ stored_after W k v ws ps hs (i + 1)
  unfolding stored_after
  store_more v i ex es ey =
      ey ∙ ap₂ (λ (s : Span) (xs : List ℕ). after W (store s k Le Unsigned (pos v)) xs) es ex ∙ ap (stored_after W k v ws ps hs) (sym (add-one i))

  -- at the end, with a head for each word
  pub mixed_all : (old i : ℕ) {m : ℕ} → length ps ≤ length hs → length ps ≤ i → i ≤ length ps → m ≡ mix_after W k ws ps hs i → m ≡ mixed W k ws ps hs old
  mixed_all old i h l u e = e ∙ (let q : i ≡ length ps = omega arith in rw (le-ltb (length hs) (length ps) h, q))

  pub stored_all : (v i : ℕ) {xs : List ℕ} → length ps ≤ length hs → length ps ≤ i → i ≤ length ps → xs ≡ stored_after W k v ws ps hs i → xs ≡ stored W k v ws ps hs
  stored_all v i h l u e = e ∙ (let q : i ≡ length ps = omega arith in rw (le-ltb (length hs) (length ps) h, q))
