-- Rows written part by part, moved and swapped, and the calls on them.
pub mod Word
pub mod Part
pub mod Scratch
pub mod InPlace
pub mod Filled
pub mod RowCalls
pub mod Reading
