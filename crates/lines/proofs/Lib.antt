pub mod Spelled
pub mod Written
