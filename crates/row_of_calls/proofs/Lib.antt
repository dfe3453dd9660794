pub mod Areas
pub mod Cases
pub mod Marking
pub mod Places
pub mod Serving
pub mod Turns
pub mod Written
