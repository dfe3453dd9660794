pub mod Groups
pub mod Sizes
pub mod Writers
