pub mod Alone
pub mod Asking
pub mod Below
pub mod Columns
pub mod Judging
pub mod Known
pub mod Members
pub mod Walking
