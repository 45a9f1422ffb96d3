-- The third demand: two parties never disturb each other.
pub mod Parties
pub mod Footprints
pub mod Isolation
pub mod IsolationExample
pub mod Tight
