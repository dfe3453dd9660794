pub mod Dropped
pub mod Sample
pub mod Takers
pub mod Worked
