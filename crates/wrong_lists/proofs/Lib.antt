pub mod Cases
pub mod Instances
pub mod Servers
