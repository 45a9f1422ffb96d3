pub mod Naming
pub mod Crossing
pub mod OneOutcome
pub mod Declined
