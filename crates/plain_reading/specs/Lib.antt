pub mod Listed
pub mod Broken
pub mod Passes
pub mod Plain
pub mod Read
