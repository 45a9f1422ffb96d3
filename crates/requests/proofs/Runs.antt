-- A run of the code is a mixture of the isolation theorem: its replies say what the mixture is answered, its buffers are the mixture's. So two
-- parties that own separate positions are undisturbed by any function that keeps the promise of `perform`. Assumes nothing.
use Prim.Native.Nat.{ℕ, ◌<◌}
use mathlib.Core.Path.{◌≡◌, refl, sym, ◌∙◌, ap, ap₂}
use mathlib.Core.List.{List, [], ◌∷◌, map}
use lib.ListN.{length}
use Rattle.std.proofs.Common.{Result}
use Rattle.rules.specs.declared.Refusal.{Refusal}
use Rattle.rules.specs.Bits.{bit_at}
use Rattle.rules.specs.Calls.{Answer, refused}
use Rattle.rules.specs.Answers.{Gives}
use Rattle.rules.specs.Mixtures.{Party, one, two, Of, of, hers, All, answers, final, mixed_answers, mixed_final, told, left, Separate, Within}
use Rattle.rules.proofs.Isolation.Isolation.{isolation, isolation_from}
use Rattle.requests.specs.declared.Request.{Request}
use Rattle.requests.specs.declared.Reply.{Reply}
use Rattle.requests.specs.Requests.{call_of, reply_says}
use Rattle.requests.specs.Runs.{Exchange, performed, declined, Got, replied, got_255, got, asked, marked, unmarked, Run, ended, step, passed, Undisturbed}
use Rattle.requests.proofs.OneReply.{one_reply, not_255}

-- what came back, as an answer
abbrev pub says : Got → Answer
says (replied r) = reply_says r
says got_255 = refused 255

one_got : (x y : Got) → says x ≡ says y → x ≡ y
one_got (replied x) (replied y) e = ap replied (one_reply x y e)
one_got (replied x) got_255 e = absurd (not_255 x e)
one_got got_255 (replied y) e = absurd (not_255 y (sym e))
one_got got_255 got_255 e = refl

-- the same lists of what came back
all_got : (s t : List Exchange) → map (λ e. says (got e)) s ≡ map (λ e. says (got e)) t → map got s ≡ map got t
all_got [] [] e = refl
all_got [] (y ∷ t) e = cc
all_got (x ∷ s) [] e = cc
all_got (x ∷ s) (y ∷ t) e =
    let h : says (got x) ≡ says (got y) = cc in
    let k : map (λ e. says (got e)) s ≡ map (λ e. says (got e)) t = cc in
    ap₂ ◌∷◌ (one_got (got x) (got y) h) (all_got s t k)

hers_map : {A B : Type 0} (f : A → B) (p : Party) (t : List (Of A)) → hers p (map (marked f) t) ≡ map f (hers p t)
unfolding hers
hers_map f one [] = refl
hers_map f two [] = refl
hers_map f one (of one a ∷ t) = ap (λ r. f a ∷ r) (hers_map f one t)
hers_map f one (of two a ∷ t) = hers_map f one t
hers_map f two (of one a ∷ t) = hers_map f two t
hers_map f two (of two a ∷ t) = ap (λ r. f a ∷ r) (hers_map f two t)

module _ (W : ℕ) (wide : 0 < W) (Performs : List ℕ → Request → List ℕ → Result Reply Refusal → List ℕ → Type 0)
    (promise : (ws : List ℕ) (request : Request) (other : List ℕ) (reply : Result Reply Refusal) (ms : List ℕ) → Performs ws request other reply ms
    → Gives W (call_of request other) ws (reply_says reply) ms) where
  -- what comes back says what is answered, and the buffer is what is left
  run_answers : (s : List Exchange) (ws vs : List ℕ) → Run Performs ws s vs → map (λ e. says (got e)) s ≡ answers (told W) (left W) (map asked s) ws
  unfolding answers
  run_answers [] ws vs ended = refl
  run_answers (performed request other reply ∷ s) ws vs (step {ms = ms} k r) =
      ap₂ ◌∷◌ (promise ws request other reply ms k).answers (run_answers s ms vs r ∙ ap (answers (told W) (left W) (map asked s)) (promise ws request other reply ms k).holds)
  run_answers (declined ∷ s) ws vs (passed r) = ap (λ x. refused 255 ∷ x) (run_answers s ws vs r)

  run_final : (s : List Exchange) (ws vs : List ℕ) → Run Performs ws s vs → vs ≡ final (told W) (left W) (map asked s) ws
  unfolding final
  run_final [] ws vs ended = refl
  run_final (performed request other reply ∷ s) ws vs (step {ms = ms} k r) = run_final s ms vs r ∙ ap (final (told W) (left W) (map asked s)) (promise ws request other reply ms k).holds
  run_final (declined ∷ s) ws vs (passed r) = run_final s ws vs r

  -- the same of a mixture
  mixed_answered : (t : List (Of Exchange)) (ws vs : List ℕ) → Run Performs ws (map unmarked t) vs
      → mixed_answers (told W) (left W) (map (marked asked) t) ws ≡ map (marked (λ e. says (got e))) t
  unfolding mixed_answers
  mixed_answered [] ws vs ended = refl
  mixed_answered (of p (performed request other reply) ∷ t) ws vs (step {ms = ms} k r) =
      ap₂ (λ x y. of p x ∷ y) (sym (promise ws request other reply ms k).answers)
      (ap (mixed_answers (told W) (left W) (map (marked asked) t)) (sym (promise ws request other reply ms k).holds) ∙ mixed_answered t ms vs r)
  mixed_answered (of p declined ∷ t) ws vs (passed r) = ap (λ y. of p (refused 255) ∷ y) (mixed_answered t ws vs r)

  mixed_left : (t : List (Of Exchange)) (ws vs : List ℕ) → Run Performs ws (map unmarked t) vs → mixed_final (told W) (left W) (map (marked asked) t) ws ≡ vs
  unfolding mixed_final
  mixed_left [] ws vs ended = refl
  mixed_left (of p (performed request other reply) ∷ t) ws vs (step {ms = ms} k r) =
      ap (mixed_final (told W) (left W) (map (marked asked) t)) (sym (promise ws request other reply ms k).holds) ∙ mixed_left t ms vs r
  mixed_left (of p declined ∷ t) ws vs (passed r) = mixed_left t ws vs r

  -- DEMAND 3, of the code
  module _ (Own : Party → ℕ → Type 0) (separate : Separate Own) (t : List (Of Exchange)) (ws vs : List ℕ)
      (within : All (Within W (length ws) Own) (map (marked asked) t)) (run : Run Performs ws (map unmarked t) vs) where
    module _ (p : Party) (us ends : List ℕ) (s : List Exchange) (long : length us ≡ length ws) (same : (q : ℕ) → Own p q → bit_at W us q ≡ bit_at W ws q)
        (asks : map asked s ≡ map asked (hers p t)) (alone : Run Performs us s ends) where
      apart : (hers p (mixed_answers (told W) (left W) (map (marked asked) t) ws) ≡ answers (told W) (left W) (hers p (map (marked asked) t)) us)
          × ((q : ℕ) → Own p q → bit_at W (mixed_final (told W) (left W) (map (marked asked) t) ws) q ≡ bit_at W (final (told W) (left W) (hers p (map (marked asked) t)) us) q)
      apart = isolation_from W wide ws us (sym long) Own separate (map (marked asked) t) within p (λ q o. sym (same q o))

      own_asks : map asked s ≡ hers p (map (marked asked) t)
      own_asks = asks ∙ sym (hers_map asked p t)

      own_replies : map got s ≡ map got (hers p t)
      own_replies =
          all_got s (hers p t)
          (run_answers s us ends alone ∙ ap (λ x. answers (told W) (left W) x us) own_asks ∙ sym apart.0
          ∙ ap (hers p) (mixed_answered t ws vs run) ∙ hers_map (λ e. says (got e)) p t)

      own_bits : (q : ℕ) → Own p q → bit_at W ends q ≡ bit_at W vs q
      own_bits q o =
          ap (λ x. bit_at W x q) (run_final s us ends alone ∙ ap (λ x. final (told W) (left W) x us) own_asks) ∙ sym (apart.1 q o)
          ∙ ap (λ x. bit_at W x q) (mixed_left t ws vs run)

    pub undisturbed : Undisturbed Performs W Own t ws vs
    undisturbed = record {
      same_replies = own_replies;
      same_bits = own_bits;
      others_stay = λ q free.
          ap (λ x. bit_at W x q) (sym (mixed_left t ws vs run)) ∙ (isolation W wide ws Own separate (map (marked asked) t) within).others_stay q free;
    }
