pub mod Early
pub mod Numbers
pub mod Passed
pub mod Trial
