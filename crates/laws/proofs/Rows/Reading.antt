-- A call that only reads leaves the buffer as it was, accepted or refused; and a comparison within one buffer is one with the buffer itself
-- handed in as the second. Assumes nothing.
use Prim.Native.Nat.{ℕ}
use mathlib.Core.Path.{◌≡◌, refl}
use mathlib.Core.List.{List}
use lib.ListN.{length}
use Rattle.laws.specs.Types.{Span, Significance, Sign, Verdict, Ok, Err}
use Rattle.rules.specs.Refusals.{verdict}
use Rattle.rules.specs.Calls.{Side, here, there, unless, read_bit, load, equal, find_first, find_last, cases, answer!, after!, answer, after}

kept : (v : Verdict) (ws : List ℕ) → unless v ws ws ≡ ws
kept (Ok _) ws = refl
kept (Err r) ws = refl

module _ (W : ℕ) (ws : List ℕ) where
  pub read_bit_leaves : (s : Span) (i : ℕ) → after W (read_bit s i) ws ≡ ws
  unfolding after after!
  read_bit_leaves s i = kept (verdict (cases W (length ws) (read_bit s i))) ws

  pub load_leaves : (s : Span) (K : ℕ) (e : Significance) (g : Sign) → after W (load s K e g) ws ≡ ws
  unfolding after after!
  load_leaves s K e g = kept (verdict (cases W (length ws) (load s K e g))) ws

  pub equal_leaves : (a : Side) (s : Span) (b : Side) (t : Span) → after W (equal a s b t) ws ≡ ws
  unfolding after after!
  equal_leaves a s b t = kept (verdict (cases W (length ws) (equal a s b t))) ws

  pub find_first_leaves : (v : ℕ) (s : Span) → after W (find_first v s) ws ≡ ws
  unfolding after after!
  find_first_leaves v s = kept (verdict (cases W (length ws) (find_first v s))) ws

  pub find_last_leaves : (v : ℕ) (s : Span) → after W (find_last v s) ws ≡ ws
  unfolding after after!
  find_last_leaves v s = kept (verdict (cases W (length ws) (find_last v s))) ws

  -- the buffer itself as the second one
  pub equal_here : (s t : Span) → answer W (equal here s (there ws) t) ws ≡ answer W (equal here s here t) ws
  unfolding answer answer! cases
  equal_here s t = refl

  -- the second buffer on the left, on both sides, or the buffer itself on the right: the words compared are what counts
  pub equal_there : (vs : List ℕ) (s t : Span) → answer W (equal here s (there ws) t) vs ≡ answer W (equal (there vs) s here t) ws
  unfolding answer answer! cases
  equal_there vs s t = refl

  pub equal_apart : (vs : List ℕ) (s t : Span) → answer W (equal here s (there vs) t) vs ≡ answer W (equal (there vs) s (there vs) t) ws
  unfolding answer answer! cases
  equal_apart vs s t = refl
