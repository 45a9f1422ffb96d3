-- Document 01 as definitions, in its own order. A reader begins at the top and needs nothing else.
pub mod Types
pub mod Bits
pub mod Positions
pub mod Fields
pub mod Rows
pub mod Refusals
pub mod Calls
pub mod Answers
pub mod Mixtures
pub mod Samples
