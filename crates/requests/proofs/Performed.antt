-- From what a single call promises to what `perform` promises: a reading call leaves the buffer, a writing one has its promise. Assumes nothing.
use Prim.Native.Nat.{ℕ}
use mathlib.Core.Path.{◌≡◌, sym, ◌∙◌}
use mathlib.Core.List.{List}
use Rattle.rules.specs.Calls.{Answer, Call, answer, after}
use Rattle.rules.specs.Answers.{Gives}

-- a reading call: its reply, and the buffer as it was
pub read : (W : ℕ) (c : Call) (ws : List ℕ) {r a : Answer} {m : List ℕ} → r ≡ a → a ≡ answer W c ws → after W c ws ≡ ws → m ≡ ws → Gives W c ws r m
read W c ws d e f g = record { answers = d ∙ e; holds = g ∙ sym f }

-- a writing call: its promise, with the reply for the answer
pub wrote : {W : ℕ} {c : Call} {ws : List ℕ} {r a : Answer} {m : List ℕ} → r ≡ a → Gives W c ws a m → Gives W c ws r m
wrote d g = record { answers = d ∙ g.answers; holds = g.holds }
