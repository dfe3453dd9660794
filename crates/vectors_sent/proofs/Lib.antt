pub mod Blocks
pub mod Calls
pub mod Rows
pub mod Said
pub mod Sending
