-- Rows of bits, what writing a run of them leaves, and spans.
pub mod Row
pub mod Splice
pub mod Spans
pub mod Copy
