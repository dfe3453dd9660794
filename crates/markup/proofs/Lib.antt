pub mod Escaping
pub mod Written
