pub mod Assignment
pub mod Survey
