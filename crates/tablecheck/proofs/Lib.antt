pub mod Lines
pub mod Long
