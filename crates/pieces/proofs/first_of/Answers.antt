-- `first_of` is `first_of_value`, by the case of the significance. Assumes nothing.
use Rattle.laws.proofs.Fields.Cuts.{first_of_value}
use Rattle.pieces.proofs.first_of.Goals as goal

pub returns-in-Le : goal.returns-in-Le
unfolding first_of_value
returns-in-Le c = rw c.in-Le.is

pub returns-in-Be : goal.returns-in-Be
unfolding first_of_value
returns-in-Be c = rw c.in-Be.is
