pub mod Sample
pub mod Worked
