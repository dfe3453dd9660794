pub mod Blocks
pub mod Lines
pub mod Octets
pub mod Pieces
pub mod Written
