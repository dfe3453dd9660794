pub mod Comparing
pub mod Places
pub mod Tables
