-- Where an argument is no code, an exported call returns 255, leaves all that is behind a pointer and every lent word, and that whatever the words
-- hold: in a mixture of two parties it is what `Mixtures.no_call` stands for. Each exported call promises one of these five records. Assumes nothing.
use Prim.Native.Nat.{ℕ}
use mathlib.Core.Path.{◌≡◌, ◌∙◌, ap}
use mathlib.Core.Bool.{Bool, true}
use mathlib.Core.List.{List}
use Rattle.rules.specs.declared.Span.{Span}
use Rattle.rules.specs.Calls.{Answer, Call, answer, after, swap_answer, swap_left, swap_right}
use Rattle.rules.specs.Mixtures.{no_call, told, left}
use Rattle.border.specs.Border.{behind, kept, returned, behind_pointer, Told, Found, Rest, Wrote, Swapped}

module _ (bad : Bool) (none : bad ≡ true) (a : Answer) where
  -- a writing call: the number and the buffer of a mixture's `no_call`, at any width
  pub wrote_declined : {W : ℕ} {c : Call} {old new : List ℕ} {r : ℕ} → Wrote W bad c old r new → (r ≡ returned (told W no_call old)) × (new ≡ left W no_call old)
  wrote_declined {W} {c} {old} p = (
    p.number ∙ ap (λ (b : Bool). returned (behind b (answer W c old))) none,
    p.holds ∙ ap (λ (b : Bool). kept b (after W c old) old) none,
  )

  -- a reading call: the same number, and what the pointers held; it lends its words for reading alone
  pub told_declined : {old r new : ℕ} → Told (behind bad a) old r new → (r ≡ 255) × (new ≡ old)
  told_declined {old} p = (
    p.number ∙ ap (λ (b : Bool). returned (behind b a)) none,
    p.value ∙ ap (λ (b : Bool). behind_pointer 0 (behind b a) old) none,
  )

  pub found_declined : {old older r flag index : ℕ} → Found (behind bad a) old older r flag index → (r ≡ 255) × (flag ≡ old) × (index ≡ older)
  found_declined {old} {older} p = (
    p.number ∙ ap (λ (b : Bool). returned (behind b a)) none,
    p.whether ∙ ap (λ (b : Bool). behind_pointer 0 (behind b a) old) none,
    p.where_to ∙ ap (λ (b : Bool). behind_pointer 1 (behind b a) older) none,
  )

  pub rest_declined : {w h l r word head length : ℕ} → Rest (behind bad a) w h l r word head length → (r ≡ 255) × (word ≡ w) × (head ≡ h) × (length ≡ l)
  rest_declined {w} {h} {l} p = (
    p.number ∙ ap (λ (b : Bool). returned (behind b a)) none,
    p.first_word ∙ ap (λ (b : Bool). behind_pointer 0 (behind b a) w) none,
    p.first_head ∙ ap (λ (b : Bool). behind_pointer 1 (behind b a) h) none,
    p.rest_length ∙ ap (λ (b : Bool). behind_pointer 2 (behind b a) l) none,
  )

  pub swapped_declined : {W : ℕ} {s t : Span} {old older new newer : List ℕ} {r : ℕ} → Swapped W bad old s older t r new newer → (r ≡ 255) × (new ≡ old) × (newer ≡ older)
  swapped_declined {W} {s} {t} {old} {older} p = (
    p.number ∙ ap (λ (b : Bool). returned (behind b (swap_answer W old s older t))) none,
    p.holds_left ∙ ap (λ (b : Bool). kept b (swap_left W old s older t) old) none,
    p.holds_right ∙ ap (λ (b : Bool). kept b (swap_right W old s older t) older) none,
  )
