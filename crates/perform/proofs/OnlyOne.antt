-- No second reply and no second memory keeps the promise of `perform`. Assumes nothing.
use mathlib.Core.Path.{◌≡◌}
use Prim.Native.Nat.{ℕ, ◌%◌, ◌^◌}
use denote.Plain.{UInt}
use Rattle.std.specs.Prelude.{map}
use Rattle.rules.proofs.Rows.Row.{Words}
use Rattle.laws.proofs.Words.Typed.{same_integers}
use Rattle.rules.proofs.Refusals.OneAnswer.{only}
use Rattle.requests.proofs.OneReply.{one_reply}
use Rattle.perform.proofs.perform.Reads as perform

perform_only : (T : _) (W : _) (laws : _) (fits : _) (copied : _) (h : _) (hd : _) (w : _) (wd : _) (k : _) (kd : _) (κs : _) (a : _) (r r' : _) (x x' : _)
    → perform.Post T W laws fits copied h hd w wd k kd κs a r x → perform.Post T W laws fits copied h hd w wd k kd κs a r' x'
    → (r ≡ r') × (map w.value x.0.now ≡ map w.value x'.0.now)
perform_only T W laws fits copied h hd w wd k kd κs a r r' x x' p q = let o = only p q in (one_reply r r' o.0, o.1)

-- of words that are machine integers: the words themselves
perform_only_words : (v : _) (W : _) (laws : _) (fits : _) (copied : _) (h : _) (hd : _) (w : _) (wd : _) (k : _) (kd : _) (κs : _) (a : _) (r r' : _) (x x' : _)
    → perform.Post (UInt v) W laws fits copied h hd w wd k kd κs a r x → perform.Post (UInt v) W laws fits copied h hd w wd k kd κs a r' x'
    → w.value ≡ (λ (y : ℕ). y % 2 ^ W) → Words W x.0.now → Words W x'.0.now
    → (r ≡ r') × (x.0.now ≡ x'.0.now)
perform_only_words v W laws fits copied h hd w wd k kd κs a r r' x x' p q e small below =
    let o = perform_only (UInt v) W laws fits copied h hd w wd k kd κs a r r' x x' p q in
    (o.0, same_integers W w.value e x.0.now x'.0.now small below o.1)
