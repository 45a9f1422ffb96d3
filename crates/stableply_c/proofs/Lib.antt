pub mod OnlyOne
pub mod OnlyOne64
pub mod OnlyOne8
