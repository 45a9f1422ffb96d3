pub mod Border
pub mod Faults
