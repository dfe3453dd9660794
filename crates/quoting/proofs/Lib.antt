pub mod Names
pub mod Reading
pub mod Writing
