pub mod Passing
pub mod Trials
