pub mod OnlyOne
mod Blocks
