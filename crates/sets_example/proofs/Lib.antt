pub mod Behind
pub mod Family
pub mod Instances
pub mod Unreachable
