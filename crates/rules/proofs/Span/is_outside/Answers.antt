-- `Span::is_outside`: the room from the span's first word on, less its head, is below its length.
use mathlib.Core.Path.{◌≡◌, ap, ◌∙◌}
use native.Mathlib.Omega.{arith}
use Prim.Native.Nat.{ℕ, ◌-◌, ◌*◌}
use lib.Dec.{ltb}
use Rattle.rules.specs.Bits.{bits}
use Rattle.rules.specs.Positions.{in_bounds}
use Rattle.rules.proofs.Refusals.Room.{none_left, some_left, no_word, no_room, by_room}
use Rattle.rules.proofs.Span.is_outside.Goals as goal

pub returns-then-lent-word-2 : goal.returns-then-lent-word-2
unfolding in_bounds
returns-then-lent-word-2 c = let a = c.args in no_word (bits a.width) a.self.head.0 a.self.len c.requires.1 c.if-lent-word-2.true

pub returns-then-head-gt0 : goal.returns-then-head-gt0
unfolding in_bounds
returns-then-head-gt0 c =
    let a = c.args in
    let W = bits a.width in
    no_room W a.self.head.0 a.self.len c.if-lent-word-2.false (omega (arith, none_left W c.if-lent-word.true))

pub returns-then-lent-word : goal.returns-then-lent-word
unfolding in_bounds
returns-then-lent-word c =
    let a = c.args in
    let W = bits a.width in
    let z : 0 ≡ (a.lent - a.self.word) * W - a.self.head.0 = omega (arith, none_left W c.if-lent-word.true) in
    ap (λ (x : ℕ). ltb x a.self.len) z ∙ by_room W a.self.head.0 a.self.len c.if-lent-word-2.false (omega (arith, none_left W c.if-lent-word.true))

pub returns : goal.returns
unfolding in_bounds
returns c =
    let a = c.args in
    let s = some_left (bits a.width) c.if-lent-word.false in
    rw c.bits-w.ensures (by_room (bits a.width) a.self.head.0 a.self.len (omega arith) (omega arith))
