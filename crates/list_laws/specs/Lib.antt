pub mod Ends
pub mod Refusals
