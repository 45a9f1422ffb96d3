-- No second answer and no second memory keeps the promise of `copy_within`, as the source states it. Assumes nothing.
use mathlib.Core.Path.{◌≡◌}
use Prim.Native.Nat.{ℕ, ◌%◌, ◌^◌}
use denote.Plain.{UInt}
use Rattle.std.specs.Prelude.{map}
use Rattle.rules.proofs.Rows.Row.{Words}
use Rattle.laws.proofs.Words.Typed.{same_integers}
use Rattle.rules.proofs.Refusals.OneAnswer.{only, one_write}
use Rattle.within.proofs.copy_within.Reads as copy-within

copy_within_only : (T : _) (W : _) (laws : _) (fits : _) (copied : _) (w : _) (wd : _) (k : _) (kd : _) (κs : _) (a : _) (r r' : _) (x x' : _)
    → copy-within.Post T W laws fits copied w wd k kd κs a r x → copy-within.Post T W laws fits copied w wd k kd κs a r' x'
    → (r ≡ r') × (map w.value x.0.now ≡ map w.value x'.0.now)
copy_within_only T W laws fits copied w wd k kd κs a r r' x x' p q = let o = only p q in (one_write r r' o.0, o.1)

-- of words that are machine integers: the words themselves
copy_within_only_words : (v : _) (W : _) (laws : _) (fits : _) (copied : _) (w : _) (wd : _) (k : _) (kd : _) (κs : _) (a : _) (r r' : _) (x x' : _)
    → copy-within.Post (UInt v) W laws fits copied w wd k kd κs a r x → copy-within.Post (UInt v) W laws fits copied w wd k kd κs a r' x'
    → w.value ≡ (λ (y : ℕ). y % 2 ^ W) → Words W x.0.now → Words W x'.0.now
    → (r ≡ r') × (x.0.now ≡ x'.0.now)
copy_within_only_words v W laws fits copied w wd k kd κs a r r' x x' p q e small below =
    let o = copy_within_only (UInt v) W laws fits copied w wd k kd κs a r r' x x' p q in
    (o.0, same_integers W w.value e x.0.now x'.0.now small below o.1)
