pub mod Copies
pub mod Ending
pub mod Lengths
pub mod Proxies
pub mod Rooms
pub mod Written
