pub mod Dealt
pub mod Instances
pub mod Small
pub mod Steps
pub mod Wrong
