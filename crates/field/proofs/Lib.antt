-- What is proved of the calls beyond their promises.
pub mod OnlyOne
