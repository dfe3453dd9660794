pub mod Fields
pub mod Numbers
pub mod Whole
pub mod Written
