pub mod Looks
pub mod Members
pub mod NameTurns
pub mod OwnTurns
pub mod Plans
pub mod Rows
pub mod Surveys
