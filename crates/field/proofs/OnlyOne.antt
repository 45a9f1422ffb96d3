-- No second answer, and no second memory, satisfies the promise of a call as the source states it. Assumes nothing.
use mathlib.Core.Path.{◌≡◌, sym, ◌∙◌}
use Prim.Native.Nat.{ℕ, ◌%◌, ◌^◌}
use denote.Plain.{UInt}
use Rattle.std.specs.Prelude.{map}
use Rattle.rules.proofs.Rows.Row.{Words}
use Rattle.laws.proofs.Words.Typed.{same_integers}
use Rattle.rules.proofs.Refusals.OneAnswer.{one_bit, one_number_answer, one_write, only}
use Rattle.field.proofs.read_bit.Reads as read-bit
use Rattle.field.proofs.write_bit.Reads as write-bit
use Rattle.field.proofs.load.Reads as load
use Rattle.field.proofs.store.Reads as store
use Rattle.field.proofs.store_strict.Reads as store-strict

read_bit_only : (T : _) (W : _) (laws : _) (fits : _) (copied : _) (w : _) (wd : _) (k : _) (kd : _) (κs : _) (a : _) (r r' : _) (x x' : _)
    → read-bit.Post T W laws fits copied w wd k kd κs a r x → read-bit.Post T W laws fits copied w wd k kd κs a r' x' → r ≡ r'
read_bit_only T W laws fits copied w wd k kd κs a r r' x x' p q = one_bit r r' (p ∙ sym q)

load_only : (T : _) (W : _) (laws : _) (fits : _) (copied : _) (h : _) (hd : _) (w : _) (wd : _) (k : _) (kd : _) (κs : _) (a : _) (r r' : _) (x x' : _)
    → load.Post T W laws fits copied h hd w wd k kd κs a r x → load.Post T W laws fits copied h hd w wd k kd κs a r' x' → r ≡ r'
load_only T W laws fits copied h hd w wd k kd κs a r r' x x' p q = one_number_answer r r' (p ∙ sym q)

write_bit_only : (T : _) (W : _) (laws : _) (fits : _) (copied : _) (w : _) (wd : _) (k : _) (kd : _) (κs : _) (a : _) (r r' : _) (x x' : _)
    → write-bit.Post T W laws fits copied w wd k kd κs a r x → write-bit.Post T W laws fits copied w wd k kd κs a r' x' → (r ≡ r') × (map w.value x.0.now ≡ map w.value x'.0.now)
write_bit_only T W laws fits copied w wd k kd κs a r r' x x' p q = let o = only p q in (one_write r r' o.0, o.1)

store_only : (T : _) (W : _) (laws : _) (fits : _) (copied : _) (h : _) (hd : _) (w : _) (wd : _) (k : _) (kd : _) (κs : _) (a : _) (r r' : _) (x x' : _)
    → store.Post T W laws fits copied h hd w wd k kd κs a r x → store.Post T W laws fits copied h hd w wd k kd κs a r' x' → (r ≡ r') × (map w.value x.0.now ≡ map w.value x'.0.now)
store_only T W laws fits copied h hd w wd k kd κs a r r' x x' p q = let o = only p q in (one_write r r' o.0, o.1)

store_strict_only : (T : _) (W : _) (laws : _) (fits : _) (copied : _) (h : _) (hd : _) (w : _) (wd : _) (k : _) (kd : _) (κs : _) (a : _) (r r' : _) (x x' : _)
    → store-strict.Post T W laws fits copied h hd w wd k kd κs a r x → store-strict.Post T W laws fits copied h hd w wd k kd κs a r' x' → (r ≡ r') × (map w.value x.0.now ≡ map w.value x'.0.now)
store_strict_only T W laws fits copied h hd w wd k kd κs a r r' x x' p q = let o = only p q in (one_write r r' o.0, o.1)

-- of words that are machine integers: the words themselves
write_bit_only_words : (v : _) (W : _) (laws : _) (fits : _) (copied : _) (w : _) (wd : _) (k : _) (kd : _) (κs : _) (a : _) (r r' : _) (x x' : _)
    → write-bit.Post (UInt v) W laws fits copied w wd k kd κs a r x → write-bit.Post (UInt v) W laws fits copied w wd k kd κs a r' x'
    → w.value ≡ (λ (y : ℕ). y % 2 ^ W) → Words W x.0.now → Words W x'.0.now
    → (r ≡ r') × (x.0.now ≡ x'.0.now)
write_bit_only_words v W laws fits copied w wd k kd κs a r r' x x' p q e small below =
    let o = write_bit_only (UInt v) W laws fits copied w wd k kd κs a r r' x x' p q in
    (o.0, same_integers W w.value e x.0.now x'.0.now small below o.1)

-- of words that are machine integers: the words themselves
store_only_words : (v : _) (W : _) (laws : _) (fits : _) (copied : _) (h : _) (hd : _) (w : _) (wd : _) (k : _) (kd : _) (κs : _) (a : _) (r r' : _) (x x' : _)
    → store.Post (UInt v) W laws fits copied h hd w wd k kd κs a r x → store.Post (UInt v) W laws fits copied h hd w wd k kd κs a r' x'
    → w.value ≡ (λ (y : ℕ). y % 2 ^ W) → Words W x.0.now → Words W x'.0.now
    → (r ≡ r') × (x.0.now ≡ x'.0.now)
store_only_words v W laws fits copied h hd w wd k kd κs a r r' x x' p q e small below =
    let o = store_only (UInt v) W laws fits copied h hd w wd k kd κs a r r' x x' p q in
    (o.0, same_integers W w.value e x.0.now x'.0.now small below o.1)

-- of words that are machine integers: the words themselves
store_strict_only_words : (v : _) (W : _) (laws : _) (fits : _) (copied : _) (h : _) (hd : _) (w : _) (wd : _) (k : _) (kd : _) (κs : _) (a : _) (r r' : _) (x x' : _)
    → store-strict.Post (UInt v) W laws fits copied h hd w wd k kd κs a r x → store-strict.Post (UInt v) W laws fits copied h hd w wd k kd κs a r' x'
    → w.value ≡ (λ (y : ℕ). y % 2 ^ W) → Words W x.0.now → Words W x'.0.now
    → (r ≡ r') × (x.0.now ≡ x'.0.now)
store_strict_only_words v W laws fits copied h hd w wd k kd κs a r r' x x' p q e small below =
    let o = store_strict_only (UInt v) W laws fits copied h hd w wd k kd κs a r r' x x' p q in
    (o.0, same_integers W w.value e x.0.now x'.0.now small below o.1)
