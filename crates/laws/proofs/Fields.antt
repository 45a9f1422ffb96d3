-- Fields cut into pieces, or read and written many words at once, and the calls on them.
pub mod Cuts
pub mod Chunk
pub mod Turned
pub mod FieldCalls
pub mod SingleBit
pub mod Selectors
pub mod Begun
