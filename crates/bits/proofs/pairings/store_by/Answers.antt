-- `store_by`: in each arm the order and the significance are its constants. Assumes nothing.
use lib.Dec.{lit<}
use mathlib.Core.Path.{refl}
use Rattle.rules.specs.Positions.{start}
use Rattle.laws.proofs.Fields.Chunk.{own}
use Rattle.laws.proofs.Words.Typed.{room_from}
use Rattle.bits.proofs.pairings.store_by.Goals as goal

pub returns-then-one : goal.returns-then-one
unfolding start
returns-then-one g c = c.put_piece.ensures c.args.significance

pub store_near-requires : goal.store_near-requires
unfolding own
store_near-requires g c =
    let p = c.requires in
    let room = c.pays.ensures c.if-pays.true in
    (p.0, p.1, p.2, p.3, room_from _ _ _ 64 (lit< tt) room, refl)

pub store_near-requires-then-pays-2 : goal.store_near-requires-then-pays-2
unfolding own
store_near-requires-then-pays-2 g c =
    let p = c.requires in
    let room = c.pays-in-Be-significance.ensures c.if-pays-2.true in
    (p.0, p.1, p.2, p.3, room_from _ _ _ 64 (lit< tt) room, refl)

pub returns-then-pays : goal.returns-then-pays
unfolding start
returns-then-pays g c = rw (c.in-Lsb0.is, c.in-Le.is) c.store_near.ensures

pub returns-else-pays : goal.returns-else-pays
unfolding start
returns-else-pays g c = rw (c.in-Lsb0.is, c.in-Le.is) c.store_bits.ensures

pub returns-in-Be : goal.returns-in-Be
unfolding start
returns-in-Be g c = rw (c.in-Lsb0.is, c.in-Be.is) c.store_bits-in-Be.ensures

pub returns-in-Le-significance : goal.returns-in-Le-significance
unfolding start
returns-in-Le-significance g c = rw (c.in-Msb0.is, c.in-Le-significance.is) c.store_bits-in-Le-significance.ensures

pub returns-then-pays-2 : goal.returns-then-pays-2
unfolding start
returns-then-pays-2 g c = rw (c.in-Msb0.is, c.in-Be-significance.is) c.store_near-then-pays-2.ensures

pub returns-else-pays-2 : goal.returns-else-pays-2
unfolding start
returns-else-pays-2 g c = rw (c.in-Msb0.is, c.in-Be-significance.is) c.store_bits-else-pays-2.ensures
