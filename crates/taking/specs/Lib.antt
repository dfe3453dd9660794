pub mod Cut
pub mod Ended
pub mod Found
pub mod TakeOver
pub mod Torn
pub mod Written
