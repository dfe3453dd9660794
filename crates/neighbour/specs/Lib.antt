pub mod Mine
pub mod Seen
