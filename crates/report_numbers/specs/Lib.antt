pub mod Area
pub mod File
pub mod Turns
