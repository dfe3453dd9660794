pub mod Blocks
pub mod Changed
pub mod First
pub mod Sealed
