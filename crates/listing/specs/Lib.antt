pub mod Export
pub mod ListOf
