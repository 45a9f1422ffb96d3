-- Facts for any width W that the proofs of the code cite; a folder for each subject, as in `rules`.

-- numbers as code tests them
pub mod Bits
-- rows written part by part, moved, swapped, and the calls on them
pub mod Rows
-- fields cut into pieces, read and written many words at once, and the calls on them
pub mod Fields
-- words: moved, masked, joined, combined, compared
pub mod Words
-- searches in a word and in a row
pub mod Searches
