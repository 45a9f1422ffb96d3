-- No second answer and no second memory, of either side, keeps the promise of `swap`, as the source states it. Assumes nothing.
use mathlib.Core.Path.{◌≡◌, sym, ◌∙◌}
use Prim.Native.Nat.{ℕ, ◌%◌, ◌^◌}
use denote.Plain.{UInt}
use Rattle.std.specs.Prelude.{map}
use Rattle.rules.proofs.Rows.Row.{Words}
use Rattle.laws.proofs.Words.Typed.{same_integers}
use Rattle.rules.proofs.Refusals.OneAnswer.{one_write}
use Rattle.swap.proofs.swap.Reads as swap

swap_only : (T : _) (W : _) (laws : _) (fits : _) (copied : _) (w : _) (wd : _) (k : _) (kd : _) (κs : _) (a : _) (r r' : _) (x x' : _)
    → swap.Post T W laws fits copied w wd k kd κs a r x → swap.Post T W laws fits copied w wd k kd κs a r' x'
    → (r ≡ r') × (map w.value x.0.now ≡ map w.value x'.0.now) × (map w.value x.1.1.0.now ≡ map w.value x'.1.1.0.now)
swap_only T W laws fits copied w wd k kd κs a r r' x x' p q =
    (one_write r r' (p.answers ∙ sym q.answers), p.holds_left ∙ sym q.holds_left, p.holds_right ∙ sym q.holds_right)

-- of words that are machine integers: the words themselves
swap_only_words : (v : _) (W : _) (laws : _) (fits : _) (copied : _) (w : _) (wd : _) (k : _) (kd : _) (κs : _) (a : _) (r r' : _) (x x' : _)
    → swap.Post (UInt v) W laws fits copied w wd k kd κs a r x → swap.Post (UInt v) W laws fits copied w wd k kd κs a r' x'
    → w.value ≡ (λ (y : ℕ). y % 2 ^ W) → Words W x.0.now → Words W x'.0.now → Words W x.1.1.0.now → Words W x'.1.1.0.now
    → (r ≡ r') × (x.0.now ≡ x'.0.now) × (x.1.1.0.now ≡ x'.1.1.0.now)
swap_only_words v W laws fits copied w wd k kd κs a r r' x x' p q e small below low under =
    let o = swap_only (UInt v) W laws fits copied w wd k kd κs a r r' x x' p q in
    (o.0, same_integers W w.value e x.0.now x'.0.now small below o.1, same_integers W w.value e x.1.1.0.now x'.1.1.0.now low under o.2)
