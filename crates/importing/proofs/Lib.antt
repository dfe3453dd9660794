pub mod Falling
pub mod High
pub mod Accepts
pub mod Given
pub mod Importing
pub mod Next
