-- Numbers as code tests them.
pub mod Bounds
pub mod Machine
pub mod Sizes
