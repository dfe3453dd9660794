pub mod Conditions
pub mod Mixed
pub mod Outcomes
pub mod Taking
pub mod Turns
pub mod Ways
pub mod Zeros
