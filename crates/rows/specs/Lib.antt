pub mod Block
pub mod Row
pub mod RowIn
pub mod Written
