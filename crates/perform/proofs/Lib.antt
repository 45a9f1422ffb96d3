pub mod Isolated
pub mod OnlyOne
pub mod Reading
