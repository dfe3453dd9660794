pub mod Apart
pub mod Instances
pub mod Tables
