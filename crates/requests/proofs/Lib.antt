pub mod OneReply
pub mod Performed
pub mod Runs
