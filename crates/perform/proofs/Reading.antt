-- What leaves the words as they are, and where the words of a comparison lie: the laws of the requests that only read. Assumes nothing.
use Rattle.laws.proofs.Rows.Reading.{read_bit_leaves, load_leaves, equal_leaves, equal_here, equal_there, equal_apart, find_first_leaves, find_last_leaves}

pub ruleset reading = (read_bit_leaves, load_leaves, equal_leaves, equal_here, equal_there, equal_apart, find_first_leaves, find_last_leaves)
