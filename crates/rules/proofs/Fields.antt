-- Fields: numbers in a row.
pub mod Field
pub mod Signed
