pub mod Fit
pub mod Members
pub mod Passes
