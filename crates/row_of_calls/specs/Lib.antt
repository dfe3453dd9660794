pub mod Leaves
pub mod Row
pub mod Word
