pub mod Choosing
pub mod Marks
pub mod Pieces
pub mod Sendable
pub mod Sound
pub mod Spent
pub mod Unused
