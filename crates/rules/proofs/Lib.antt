-- The laws that the sentences, the third demand and the span's methods rest on, for any width W; a folder for each subject. What only the
-- proofs of the code cite lies in the crate `laws`, in folders of the same names.

-- numbers and their bits
pub mod Bits
-- rows of bits, what writing a run of them leaves, and spans
pub mod Rows
-- fields: numbers in a row
pub mod Fields
-- the first and the last of a row's bits that have a value
pub mod Searches
-- the tables, what an accepted request has, and that no two answers say the same
pub mod Refusals
-- document 01, sentence by sentence
pub mod Sentences
-- the third demand
pub mod Isolation
-- no second answer satisfies a promise of this crate
pub mod OnlyOne
