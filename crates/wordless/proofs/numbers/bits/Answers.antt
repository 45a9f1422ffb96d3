-- `bits`: by cases on the number, which is a K-bit integer; below 0 all 64 bits are turned over, the low K among them.
use mathlib.Core.Path.{◌∙◌, sym, ap}
use native.Mathlib.Nat.{mod-eq_of_lt}
use Rattle.rules.specs.declared.Number.{Number}
use Rattle.rules.specs.Fields.{whole, bits_of, is_integer}
use Rattle.laws.proofs.Bits.Bounds.{up_lt, down_lt, turned_low}
use Rattle.wordless.proofs.numbers.bits.Goals as goal

pub returns-in-Up : goal.returns-in-Up
unfolding bits_of
returns-in-Up c =
    let a = c.args in
    rw c.in-Up.is (mod-eq_of_lt (up_lt a.k a.sign _ (sym (ap (λ (v : Number). is_integer a.k a.sign (whole v)) c.in-Up.is) ∙ c.requires.2)))

pub returns-in-Down : goal.returns-in-Down
unfolding bits_of
returns-in-Down c =
    let a = c.args in
    rw c.in-Down.is (turned_low a.k _ c.requires.1 (down_lt a.k a.sign _ (sym (ap (λ (v : Number). is_integer a.k a.sign (whole v)) c.in-Down.is) ∙ c.requires.2)))
