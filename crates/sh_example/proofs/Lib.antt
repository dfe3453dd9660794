pub mod Computed
pub mod Sample
pub mod Servers
pub mod Worked
