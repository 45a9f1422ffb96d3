-- The tables, what an accepted request has, and that no two answers say the same.
pub mod Tables
pub mod Accepted
pub mod OneAnswer
pub mod Room
pub mod Widths
pub mod Wordless
