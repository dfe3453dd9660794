pub mod Row
pub mod Sent
