pub mod Carried
pub mod Conditions
pub mod Moves
pub mod Outcomes
