-- Searches in a word and in a row.
pub mod WordSearch
pub mod Alike
pub mod RowSearch
