pub mod Passes
pub mod Sets
pub mod Surveyed
