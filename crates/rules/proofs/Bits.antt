-- Numbers and their bits.
pub mod Bit
pub mod Weigh
pub mod Digits
pub mod Masks
