pub mod Answers
pub mod Referring
pub mod Rooms
pub mod Tellings
