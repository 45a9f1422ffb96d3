-- The third demand for words of any type: of the rules, and of every run of `perform`, each step of which keeps the promise that its source
-- states. Assumes nothing.
use Prim.Native.Nat.{ℕ, ◌<◌}
use mathlib.Core.List.{List, map}
use lib.ListN.{length}
use denote.RattleType.{RattleType}
use denote.Param.{number, value_of}
use denote.Param.Laws.{Laws, IsCopy}
use Rattle.std.specs.Prelude.{Result}
use Rattle.std.specs.declared.clone.Clone as Clone
use Rattle.word.specs.declared.word.Word as Word
use Rattle.chunk.specs.declared.chunks.Chunk as Chunk
use Rattle.rules.specs.declared.Refusal.{Refusal}
use Rattle.rules.specs.Answers.{Gives}
use Rattle.rules.specs.Mixtures.{Party, Of, All, Asked, Separate, Within, Isolated}
use Rattle.rules.proofs.Isolation.Isolation.{isolation}
use Rattle.requests.specs.declared.Request.{Request}
use Rattle.requests.specs.declared.Reply.{Reply}
use Rattle.requests.specs.Requests.{call_of, reply_says}
use Rattle.requests.specs.Runs.{Exchange, asked, marked, unmarked, Run, Undisturbed}
use Rattle.requests.proofs.Runs.{undisturbed}
use Rattle.perform.proofs.perform.Reads as perform

-- words of W bits, of which there is at least one
module _ (W : ℕ) (some : 0 < W) where
  -- each party's answers and final bits are those of its own calls alone, and unowned bits stay
  pub isolated : (ws : List ℕ) (Own : Party → ℕ → Type 0) → Separate Own → (t : List (Of Asked)) → All (Within W (length ws) Own) t → Isolated W ws Own t
  isolated = isolation W some

  -- a type of such words, as `perform` is given one: that it is copied, and its members as `Clone`, as `Word` and as `Chunk`
  module _ (T : RattleType) (laws : Laws T) (copied : IsCopy T) (clone : Clone.Ghosts T.Denot) (word : Word.Ghosts T.Denot (value_of (number W)))
      (chunk : Chunk.Ghosts T.Denot (value_of (number W))) where
    -- The words before, the request, the second buffer, the reply and the words after of a call of `perform` that kept its promise.
    pub data Performs : List ℕ → Request → List ℕ → Result Reply Refusal → List ℕ → Type 0 where
      kept : (fits hd wd kd κs a r x : _) → perform.Post T W laws fits copied chunk hd word wd clone kd κs a r x
          → Performs (map word.value a.0.now) a.1.1.0 (map word.value a.1.0.now) r (map word.value x.0.now)

    promise : (ws : List ℕ) (request : Request) (other : List ℕ) (reply : Result Reply Refusal) (ms : List ℕ) → Performs ws request other reply ms
        → Gives W (call_of request other) ws (reply_says reply) ms
    promise ws request other reply ms (kept fits hd wd kd κs a r x p) = p

    -- Whatever two parties ask of `perform`, mixed in any way, each within its own positions: neither is disturbed.
    pub run_isolated : (Own : Party → ℕ → Type 0) → Separate Own → (t : List (Of Exchange)) (ws vs : List ℕ)
        → All (Within W (length ws) Own) (map (marked asked) t) → Run Performs ws (map unmarked t) vs → Undisturbed Performs W Own t ws vs
    run_isolated = undisturbed W some Performs promise
