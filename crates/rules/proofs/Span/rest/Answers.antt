-- `Span::rest`: the sums of an accepted place stay in bounds, and the parts are those of the second half.
use native.Mathlib.Omega.{arith}
use Prim.Native.Nat.{ℕ, ◌+◌}
use mathlib.Core.Path.{◌≡◌}
use Rattle.rules.specs.Types.{Width, Span, Ok}
use Rattle.rules.specs.Bits.{bits}
use Rattle.rules.specs.Refusals.{verdict, split_cases}
use Rattle.rules.proofs.Refusals.Room.{word_upto}
use Rattle.rules.proofs.Refusals.Widths.{bits_pos, room_fits}
use Rattle.rules.proofs.Refusals.Accepted.{Place, fine_place}
use Rattle.rules.proofs.Span.rest.Goals as goal

inside : (w : Width) (n : ℕ) (s : Span) (p : ℕ) → verdict (split_cases (bits w) n s p) ≡ Ok tt → Place (bits w) n s p
inside w n s p e = fine_place _ _ _ _ e

pub overflow_add-t : goal.overflow_add-t
overflow_add-t c = let i = inside _ _ _ _ c.requires in let a = c.args in omega (arith, room_fits a.width a.lent i.lies.few)

pub overflow_add-word : goal.overflow_add-word
overflow_add-word c =
    let i = inside _ _ _ _ c.requires in
    let a = c.args in
    rw c.bits-w.ensures (omega (arith, word_upto (bits a.width) a.self.word (a.self.head.0 + a.p) {n = a.lent} (bits_pos a.width) (omega arith)))

pub overflow_sub-len : goal.overflow_sub-len
overflow_sub-len c = (inside _ _ _ _ c.requires).upto

pub returns : goal.returns
returns c = rw (c.new.ensures, c.bits-w.ensures)
