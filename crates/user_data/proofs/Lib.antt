pub mod Sizes
pub mod Told
pub mod Written
