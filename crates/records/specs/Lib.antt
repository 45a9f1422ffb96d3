-- What a record's numbers stand for.
pub mod Calls
