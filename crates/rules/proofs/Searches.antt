-- The first and the last bit that has a value, and what a search answers.
pub mod Search
pub mod SearchAnswers
