pub mod Areas
pub mod Cutting
pub mod Events
pub mod Turns
pub mod Whole
