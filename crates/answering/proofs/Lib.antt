pub mod Ending
pub mod Lengths
pub mod Whole
