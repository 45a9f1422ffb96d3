-- `piece` moves the bits to the top of a machine word and then to its bottom, which leaves them alone. Assumes nothing.
use mathlib.Core.Path.{◌≡◌, ap, ◌∙◌}
use Prim.Native.Nat.{ℕ, ◌*◌, ◌-◌, ◌/◌, ◌%◌, ◌^◌}
use native.Mathlib.Omega.{arith}
use Rattle.rules.proofs.Fields.Field.{lowest}
use Rattle.laws.proofs.Fields.Chunk.{lowest_fits}
use Rattle.laws.proofs.Fields.Cuts.{piece_of, shifted, piece_lt}
use Rattle.pieces.proofs.piece.Goals as goal

is : (c : goal.After-room_above-up) → (let a = c.args in a.x * 2 ^ c.room_above-up.result % 2 ^ 64 / 2 ^ (64 - a.n) ≡ piece_of a.width a.x a.order a.head.0 a.n)
unfolding piece_of
is c =
    let a = c.args in
    let fits = lowest_fits a.width a.order a.head.0 a.n c.requires.1 in
    let back : 64 - (64 - a.n) ≡ a.n = omega arith in
    let turn : 64 - a.n - lowest a.width a.order a.head.0 a.n ≡ 64 - lowest a.width a.order a.head.0 a.n - a.n = omega arith in
    rw (c.room_above-up.ensures ∙ ap (λ (m : ℕ). 64 - a.n - lowest a.width a.order a.head.0 m) back ∙ turn)
    (shifted a.x (lowest a.width a.order a.head.0 a.n) a.n (omega arith))

pub returns : goal.returns
returns c = (is c, rw (is c) (piece_lt _ _ _ _ _))
