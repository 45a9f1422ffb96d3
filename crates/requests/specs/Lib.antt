pub mod Requests
pub mod Runs
