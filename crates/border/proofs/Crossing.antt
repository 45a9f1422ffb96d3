-- What a code test does to a promise: 255 and nothing written, or the promise of the call behind it. Assumes nothing.
use Prim.Native.Nat.{ℕ}
use mathlib.Core.Path.{◌≡◌, refl, ap, ◌∙◌}
use mathlib.Core.Bool.{Bool, true, false}
use mathlib.Core.List.{List}
use Rattle.rules.specs.declared.Span.{Span}
use Rattle.rules.specs.Calls.{Answer, Call, answer, after}
use Rattle.rules.specs.Answers.{Gives, Swaps}
use Rattle.border.specs.Border.{behind, kept, returned, Told, Found, Rest, Wrote, Swapped}

module _ {bad : Bool} (a : Answer) where
  pub told_stopped : {old : ℕ} → bad ≡ true → Told (behind bad a) old 255 old
  told_stopped e = rw e (record { number = refl; value = refl })

  pub found_stopped : {old older : ℕ} → bad ≡ true → Found (behind bad a) old older 255 old older
  found_stopped e = rw e (record { number = refl; whether = refl; where_to = refl })

  pub rest_stopped : {w h l : ℕ} → bad ≡ true → Rest (behind bad a) w h l 255 w h l
  rest_stopped e = rw e (record { number = refl; first_word = refl; first_head = refl; rest_length = refl })

  pub told : {b : Answer} {old r new : ℕ} → bad ≡ false → b ≡ a → Told b old r new → Told (behind bad a) old r new
  told e d t = rw (e, ← d) t

  pub found : {b : Answer} {old older r new newer : ℕ} → bad ≡ false → b ≡ a → Found b old older r new newer → Found (behind bad a) old older r new newer
  found e d t = rw (e, ← d) t

  pub rest : {b : Answer} {w h l r w' h' l' : ℕ} → bad ≡ false → b ≡ a → Rest b w h l r w' h' l' → Rest (behind bad a) w h l r w' h' l'
  rest e d t = rw (e, ← d) t

module _ {bad : Bool} (W : ℕ) (call : Call) (old : List ℕ) where
  pub wrote_stopped : bad ≡ true → Wrote W bad call old 255 old
  wrote_stopped e = rw e (record { number = refl; holds = refl })

  pub wrote : {b : Answer} {r : ℕ} {new : List ℕ} → bad ≡ false → r ≡ returned b → Gives W call old b new → Wrote W bad call old r new
  wrote e f g = rw e (record { number = f ∙ ap returned g.answers; holds = g.holds })

-- a call that answers and leaves what another does
pub wrote_as : {bad : Bool} {W : ℕ} {c d : Call} {old new : List ℕ} {r : ℕ} → answer W c old ≡ answer W d old → after W c old ≡ after W d old
    → Wrote W bad c old r new → Wrote W bad d old r new
wrote_as {bad} {W} {c} {d} {old} e f p = record {
  number = p.number ∙ ap (λ (a : Answer). returned (behind bad a)) e;
  holds = p.holds ∙ ap (λ (m : List ℕ). kept bad m old) f;
}

module _ {bad : Bool} (W : ℕ) (left : List ℕ) (s : Span) (right : List ℕ) (t : Span) where
  pub swapped_stopped : bad ≡ true → Swapped W bad left s right t 255 left right
  swapped_stopped e = rw e (record { number = refl; holds_left = refl; holds_right = refl })

  pub swapped : {b : Answer} {r : ℕ} {l m : List ℕ} → bad ≡ false → r ≡ returned b → Swaps W left s right t b l m → Swapped W bad left s right t r l m
  swapped e f g = rw e (record { number = f ∙ ap returned g.answers; holds_left = g.holds_left; holds_right = g.holds_right })
