-- `rest_of` is `rest_of_value`, by the case of the significance. Assumes nothing.
use Rattle.laws.proofs.Fields.Cuts.{rest_of_value}
use Rattle.pieces.proofs.rest_of.Goals as goal

pub returns-in-Le : goal.returns-in-Le
unfolding rest_of_value
returns-in-Le c = rw c.in-Le.is

pub returns-in-Be : goal.returns-in-Be
unfolding rest_of_value
returns-in-Be c = rw c.in-Be.is
