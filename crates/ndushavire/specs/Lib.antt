pub mod Promise
pub mod Reads
pub mod Version
pub mod Word
