pub mod All
pub mod Columns
pub mod Name
pub mod Number
pub mod Run
pub mod Standard
pub mod Sum
