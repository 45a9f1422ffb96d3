-- Words moved, masked, joined, combined and compared.
pub mod Typed
pub mod Funnel
pub mod Moves
pub mod Merged
pub mod Wholes
pub mod Combine
pub mod Agree
pub mod Lent
